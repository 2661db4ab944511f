-- What open, line and close answer, and what the table holds after them.
use Rattle.std.specs.Prelude.{ℕ, Bool, false, cond, List, Some, None, Ok, Err, Option, Result, nat_lt, slice_index_or, slice_set}
use Rattle.handshake.specs.declared.machine.Handshake.{Handshake}
use Rattle.handshake.specs.declared.machine.State.{State}
use Rattle.handshake.specs.declared.machine.Refusal as handshake
use Rattle.handshake.specs.declared.machine.Refusal.TheVariants.{ShortBuffer, AlreadyBegun, EarlyBegin}
use Rattle.handshake.specs.Machine.{begun, heard, fresh, moved, number}
use Rattle.lives.specs.declared.calls.Refusal.{Refusal}
use Rattle.lives.specs.declared.calls.Refusal.TheVariants.{NoLife, Taken, Line}

-- the lives by connection number
abbrev pub Table : Type 0
Table = List (Option Handshake)

-- the life at a connection number, if there is one
abbrev pub life : Table → ℕ → Option Handshake
life t c = slice_index_or t c None

abbrev pub begun_at : Option Handshake → Bool
begun_at (Some h) = begun h.state
begun_at None = false

-- what hosts call a refusal
abbrev pub numbered : Refusal → ℕ
numbered NoLife = 1
numbered Taken = 2
numbered (Line e) = number e

-- What a call answers, and the table after it.
pub record Done (X : Type 0) : Type 0 where
  pub answer : Result X Refusal
  pub lives : Table

-- a refusal leaves the table
abbrev pub refused : {X : Type 0} → Refusal → Table → Done X
refused e t = record { answer = Err e; lives = t }

-- a life begins where none is
abbrev pub begins : Option Handshake → Table → ℕ → ℕ → Done (Unit {0})
begins (Some h) t c uid = refused Taken t
begins None t c uid = record { answer = Ok tt; lives = slice_set t c (Some (fresh uid)) }

abbrev pub opened : Table → ℕ → ℕ → Done (Unit {0})
opened t c uid = cond (nat_lt c 16) (begins (life t c) t c uid) (refused NoLife t)

-- a life is gone
abbrev pub ends : Option Handshake → Table → ℕ → Done (Unit {0})
ends (Some h) t c = record { answer = Ok tt; lives = slice_set t c None }
ends None t c = refused NoLife t

abbrev pub closed : Table → ℕ → Done (Unit {0})
closed t c = ends (life t c) t c

-- The handshake at c gave an answer and moved to a state: a BEGIN that came too early closes the life.
abbrev pub told : Table → ℕ → Handshake → State → Result (List ℕ) handshake.Refusal → Done (List ℕ)
told t c h s (Ok text) = record { answer = Ok text; lives = slice_set t c (Some (moved h s)) }
told t c h s (Err EarlyBegin) = record { answer = Err (Line EarlyBegin); lives = slice_set t c None }
told t c h s (Err ShortBuffer) = refused (Line ShortBuffer) t
told t c h s (Err AlreadyBegun) = refused (Line AlreadyBegun) t

abbrev pub hears : Option Handshake → Table → List ℕ → ℕ → List ℕ → ℕ → Done (List ℕ)
hears (Some h) t id c line room =
    told t c h (heard h.state h.uid id line room).next (heard h.state h.uid id line room).answer
hears None t id c line room = refused NoLife t

-- a line that comes with a buffer of so many bytes
abbrev pub lined : Table → List ℕ → ℕ → List ℕ → ℕ → Done (List ℕ)
lined t id c line room = hears (life t c) t id c line room
