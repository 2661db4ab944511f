-- What the answer to a call says.
use Rattle.std.specs.Prelude.{◌≡◌, ℕ, true, List, is_some, Some, None, Ok, Err, vec_items, Option, Result}
use Rattle.lives.specs.declared.calls.Refusal.{Refusal}
use Rattle.lives.specs.Calls.{Table, numbered, opened, lined, closed}
use Rattle.replay.specs.declared.perform.Unmade.{Unmade}
use Rattle.replay.specs.declared.perform.Unmade.TheVariants.{NotYet, OutOfMemory}
use Rattle.stream.specs.declared.call.Call.{Call}
use Rattle.stream.specs.declared.call.Call.TheVariants.{Bus, Open, Line, Message, Tick, Take, Close}
use Rattle.stream.specs.Replies.{Said, done, wrote, refused}

-- of a call that answers 0
abbrev pub opening : Result (Unit {0}) Refusal → Said
opening (Ok u) = done
opening (Err e) = refused (numbered e)

-- of a call that writes to a buffer
abbrev pub wrote_or_refused : Result (List ℕ) Refusal → Said
wrote_or_refused (Ok text) = wrote text
wrote_or_refused (Err e) = refused (numbered e)

-- what the answer to a call says, on these lives and under this id; none where the call cannot be made yet
abbrev pub answered : Call → Table → List ℕ → Option Said
answered (Bus limit server) t id = None
answered (Open c uid) t id = Some (opening (opened t c uid).answer)
answered (Line c bytes size) t id = Some (wrote_or_refused (lined t id c (vec_items bytes) size).answer)
answered (Message c bytes) t id = None
answered (Tick time) t id = None
answered (Take c size) t id = None
answered (Close c) t id = Some (opening (closed t c).answer)

-- the lives after the call
abbrev pub altered : Call → Table → List ℕ → Table
altered (Bus limit server) t id = t
altered (Open c uid) t id = (opened t c uid).lives
altered (Line c bytes size) t id = (lined t id c (vec_items bytes) size).lives
altered (Message c bytes) t id = t
altered (Tick time) t id = t
altered (Take c size) t id = t
altered (Close c) t id = (closed t c).lives

-- a call is not made where there is none, or for want of memory
abbrev pub Unanswered : Unmade → Option Said → Type 0
Unanswered NotYet o = o ≡ None
Unanswered OutOfMemory o = is_some o ≡ true
