-- Answers as rows.
use Rattle.std.specs.Prelude.{◌≡◌, ℕ, ◌^◌, ◌<◌, ◌≤◌, ◌⊎◌, Bool, true, false, List, [], ◌∷◌, length, Ok, Err, vec_items, decimal, Result, ◌≢◌}
use Rattle.stream.specs.Spelling.{hex, spaced, Bytes}
use Rattle.stream.specs.Text.{first}
use Rattle.stream.specs.declared.answer.Answer.{Answer}
use Rattle.stream.specs.declared.answer.Answer.TheVariants.{Done, Wrote, Routed, Refused, Malformed}
use Rattle.stream.specs.declared.answer.Form.{Form}
use Rattle.stream.specs.declared.answer.Form.TheVariants as form
use Rattle.stream.specs.declared.fault.Fault.{Fault}
use Rattle.stream.specs.declared.fault.Fault.TheVariants.{OutOfMemory}

-- '=' for an accepted call and '!' for a refused one
abbrev pub mark : Answer → ℕ
mark Done = 61
mark (Wrote bytes) = 61
mark (Routed placed missed) = 61
mark (Refused n) = 33
mark (Malformed part cause byte) = 33

-- whether the call was refused
abbrev pub denied : Answer → Bool
denied Done = false
denied (Wrote bytes) = false
denied (Routed placed missed) = false
denied (Refused n) = true
denied (Malformed part cause byte) = true

-- the words after the mark
abbrev pub parts : Answer → List (List ℕ)
parts Done = decimal 0 ∷ []
parts (Wrote bytes) = decimal (length (vec_items bytes)) ∷ (hex (vec_items bytes) ∷ [])
parts (Routed placed missed) = decimal placed ∷ (decimal missed ∷ [])
parts (Refused n) = decimal n ∷ []
parts (Malformed part cause byte) = decimal 7 ∷ (decimal part ∷ (decimal cause ∷ (decimal byte ∷ [])))

-- the row of an answer
abbrev pub spelled : Answer → List ℕ
spelled a = spaced ((mark a ∷ []) ∷ parts a)

-- each value is within its range
abbrev pub Within : Answer → Type 0
Within Done = Unit {0}
Within (Wrote bytes) = (length (vec_items bytes) < 2 ^ 16) × Bytes (vec_items bytes)
Within (Routed placed missed) = (placed < 2 ^ 8) × (missed < 2 ^ 8)
Within (Refused n) = (0 < n) × (n ≤ 14) × (n ≢ 7)
Within (Malformed part cause byte) = (part < 2 ^ 8) × (cause < 2 ^ 8) × (byte < 2 ^ 16)

-- a call whose answers have the form f may have the answer
abbrev pub Fits : Form → Answer → Type 0
Fits f Done = f ≡ form.Nothing
Fits f (Wrote bytes) = f ≡ form.Bytes
Fits f (Routed placed missed) = f ≡ form.Counts
Fits f (Refused n) = Unit {0}
Fits f (Malformed part cause byte) = Unit {0}

-- what an answer says
pub data Said : Type 0 where
  done : Said
  wrote : List ℕ → Said
  routed : ℕ → ℕ → Said
  refused : ℕ → Said
  malformed : ℕ → ℕ → ℕ → Said

abbrev pub said : Answer → Said
said Done = done
said (Wrote bytes) = wrote (vec_items bytes)
said (Routed placed missed) = routed placed missed
said (Refused n) = refused n
said (Malformed part cause byte) = malformed part cause byte

-- what is read of a row: the answer that it spells; none is refused but for want of memory, and only one with bytes
abbrev pub Reads : Form → List ℕ → Result Answer Fault → Type 0
Reads f row (Ok a) = (row ≡ spelled a) × Within a × Fits f a
Reads f row (Err e) =
    (e ≡ OutOfMemory → (f ≡ form.Bytes) × (first row ≡ 61 ∷ []))
    × ((e ≢ OutOfMemory) → (a : Answer) → Within a → Fits f a → row ≢ spelled a)

-- ws are the words after '=', for some values within their ranges
abbrev pub Value : Form → List (List ℕ) → Type 0
Value form.Nothing ws = ws ≡ decimal 0 ∷ []
Value form.Bytes ws = (bytes : List ℕ) × (length bytes < 2 ^ 16) × Bytes bytes × (ws ≡ decimal (length bytes) ∷ (hex bytes ∷ []))
Value form.Counts ws = (placed : ℕ) × (missed : ℕ) × (placed < 2 ^ 8) × (missed < 2 ^ 8) × (ws ≡ decimal placed ∷ (decimal missed ∷ []))

-- what is read of the words ws after '='
abbrev pub Accepted : Form → List (List ℕ) → Result Answer Fault → Type 0
Accepted f ws (Ok a) = (mark a ≡ 61) × (ws ≡ parts a) × Within a × Fits f a
Accepted f ws (Err e) = (e ≡ OutOfMemory → f ≡ form.Bytes) × ((e ≢ OutOfMemory) → Value f ws → ⊥)

-- ws are the words after '! 7'
abbrev pub Place : List (List ℕ) → Type 0
Place ws = (part : ℕ) × (cause : ℕ) × (byte : ℕ) × (part < 2 ^ 8) × (cause < 2 ^ 8) × (byte < 2 ^ 16) × (ws ≡ decimal part ∷ (decimal cause ∷ (decimal byte ∷ [])))

-- what is read of the words ws after '! 7'
abbrev pub Placed : List (List ℕ) → Result Answer Fault → Type 0
Placed ws (Ok a) = (mark a ≡ 33) × (decimal 7 ∷ ws ≡ parts a) × Within a × ((f : Form) → Fits f a)
Placed ws (Err e) = (e ≢ OutOfMemory) × (Place ws → ⊥)

-- ws are the words after '!'
abbrev pub Denial : List (List ℕ) → Type 0
Denial ws = ((n : ℕ) × (0 < n) × (n ≤ 14) × (n ≢ 7) × (ws ≡ decimal n ∷ [])) ⊎ ((left : List (List ℕ)) × (ws ≡ decimal 7 ∷ left) × Place left)

-- what is read of the words ws after '!'
abbrev pub Denied : List (List ℕ) → Result Answer Fault → Type 0
Denied ws (Ok a) = (mark a ≡ 33) × (ws ≡ parts a) × Within a × ((f : Form) → Fits f a)
Denied ws (Err e) = (e ≢ OutOfMemory) × (Denial ws → ⊥)
