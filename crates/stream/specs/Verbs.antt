-- The names of the calls, and the words that follow each.
use Rattle.std.specs.Prelude.{◌≡◌, ℕ, ◌^◌, ◌<◌, ◌≤◌, List, [], ◌∷◌, length, codes, decimal, Result, MatchResult, ◌≢◌}
use Rattle.stream.specs.Spelling.{hex, Bytes}
use Rattle.stream.specs.declared.fault.Fault.{Fault}
use Rattle.stream.specs.declared.fault.Fault.TheVariants.{NoSuchRow}
use Rattle.stream.specs.declared.verb.Verb.{Verb}
use Rattle.stream.specs.declared.verb.Verb.TheVariants.{Bus, Open, Line, Message, Tick, Take, Close}

abbrev pub name : Verb → List ℕ
name Bus = codes "bus"
name Open = codes "open"
name Line = codes "line"
name Message = codes "message"
name Tick = codes "tick"
name Take = codes "take"
name Close = codes "close"

-- a word is read as the verb that it names, and refused where it names none
abbrev pub Names : List ℕ → Result Verb Fault → Type 0
Names word r = MatchResult r (λ v. word ≡ name v) (λ e. (e ≡ NoSuchRow) × ((v : Verb) → word ≢ name v))

-- a word after the name is bytes
abbrev pub Carries : Verb → Type 0
Carries Bus = Unit {0}
Carries Open = ⊥
Carries Line = Unit {0}
Carries Message = Unit {0}
Carries Tick = ⊥
Carries Take = ⊥
Carries Close = ⊥

-- ws are the words after the name, for some values within their ranges
abbrev pub Shape : Verb → List (List ℕ) → Type 0
Shape Bus ws = (limit : ℕ) × (id : List ℕ) × (limit ≤ 16) × (length id ≡ 16) × Bytes id × (ws ≡ decimal limit ∷ (hex id ∷ []))
Shape Open ws = (c : ℕ) × (uid : ℕ) × (c < 2 ^ 8) × (uid < 2 ^ 32) × (ws ≡ decimal c ∷ (decimal uid ∷ []))
Shape Line ws = (c : ℕ) × (bytes : List ℕ) × (size : ℕ) × (c < 2 ^ 8) × Bytes bytes × (size < 2 ^ 16) × (ws ≡ decimal c ∷ (hex bytes ∷ (decimal size ∷ [])))
Shape Message ws = (c : ℕ) × (bytes : List ℕ) × (c < 2 ^ 8) × Bytes bytes × (ws ≡ decimal c ∷ (hex bytes ∷ []))
Shape Tick ws = (time : ℕ) × (time < 2 ^ 64) × (ws ≡ decimal time ∷ [])
Shape Take ws = (c : ℕ) × (size : ℕ) × (c < 2 ^ 8) × (size < 2 ^ 16) × (ws ≡ decimal c ∷ (decimal size ∷ []))
Shape Close ws = (c : ℕ) × (c < 2 ^ 8) × (ws ≡ decimal c ∷ [])
