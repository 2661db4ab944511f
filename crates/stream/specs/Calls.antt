-- Calls as rows.
use Rattle.std.specs.Prelude.{◌≡◌, ℕ, ◌^◌, ◌<◌, ◌≤◌, List, [], ◌∷◌, length, Some, None, Ok, Err, vec_items, decimal, Option, Result, ◌≢◌}
use Rattle.stream.specs.Spelling.{hex, spaced, Bytes}
use Rattle.stream.specs.Text.{first}
use Rattle.stream.specs.Verbs.{name, Carries, Shape}
use Rattle.stream.specs.declared.answer.Form.{Form}
use Rattle.stream.specs.declared.answer.Form.TheVariants as form
use Rattle.stream.specs.declared.call.Call.{Call}
use Rattle.stream.specs.declared.call.Call.TheVariants.{Bus, Open, Line, Message, Tick, Take, Close}
use Rattle.stream.specs.declared.verb.Verb.{Verb}
use Rattle.stream.specs.declared.verb.Verb.TheVariants as verb
use Rattle.stream.specs.declared.fault.Fault.{Fault}
use Rattle.stream.specs.declared.fault.Fault.TheVariants.{OutOfMemory}

abbrev pub verb_of : Call → Verb
verb_of (Bus limit id) = verb.Bus
verb_of (Open c uid) = verb.Open
verb_of (Line c bytes size) = verb.Line
verb_of (Message c bytes) = verb.Message
verb_of (Tick time) = verb.Tick
verb_of (Take c size) = verb.Take
verb_of (Close c) = verb.Close

-- the words after the name
abbrev pub arguments : Call → List (List ℕ)
arguments (Bus limit id) = decimal limit ∷ (hex id ∷ [])
arguments (Open c uid) = decimal c ∷ (decimal uid ∷ [])
arguments (Line c bytes size) = decimal c ∷ (hex (vec_items bytes) ∷ (decimal size ∷ []))
arguments (Message c bytes) = decimal c ∷ (hex (vec_items bytes) ∷ [])
arguments (Tick time) = decimal time ∷ []
arguments (Take c size) = decimal c ∷ (decimal size ∷ [])
arguments (Close c) = decimal c ∷ []

-- the row of a call
abbrev pub spelled : Call → List ℕ
spelled call = spaced (name (verb_of call) ∷ arguments call)

-- each value is within its range
abbrev pub Within : Call → Type 0
Within (Bus limit id) = (limit ≤ 16) × (length id ≡ 16) × Bytes id
Within (Open c uid) = (c < 2 ^ 8) × (uid < 2 ^ 32)
Within (Line c bytes size) = (c < 2 ^ 8) × Bytes (vec_items bytes) × (size < 2 ^ 16)
Within (Message c bytes) = (c < 2 ^ 8) × Bytes (vec_items bytes)
Within (Tick time) = time < 2 ^ 64
Within (Take c size) = (c < 2 ^ 8) × (size < 2 ^ 16)
Within (Close c) = c < 2 ^ 8

-- what is read of the words ws after the name of v
abbrev pub Arguments : Verb → List (List ℕ) → Result Call Fault → Type 0
Arguments v ws (Ok call) = (verb_of call ≡ v) × (ws ≡ arguments call) × Within call
Arguments v ws (Err e) = (e ≡ OutOfMemory → Carries v) × ((e ≢ OutOfMemory) → Shape v ws → ⊥)

-- what is read of a row: the call that it spells; no call is refused but for want of memory, and only one with bytes
abbrev pub Reads : List ℕ → Result Call Fault → Type 0
Reads row (Ok call) = (row ≡ spelled call) × Within call
Reads row (Err e) =
    (e ≡ OutOfMemory → (v : Verb) × Carries v × (first row ≡ name v))
    × ((e ≢ OutOfMemory) → (call : Call) → Within call → row ≢ spelled call)

-- what the answer of an accepted call holds; `bus` has no answer
abbrev pub form_of : Call → Option Form
form_of (Bus limit id) = None
form_of (Open c uid) = Some form.Nothing
form_of (Line c bytes size) = Some form.Bytes
form_of (Message c bytes) = Some form.Counts
form_of (Tick time) = Some form.Nothing
form_of (Take c size) = Some form.Bytes
form_of (Close c) = Some form.Nothing
