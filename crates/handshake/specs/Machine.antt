-- The machine: what a line is answered, by the state and the line together.
use Rattle.std.specs.Prelude.{ℕ, Bool, true, false, cond, List, length, Ok, Err, Result, nat_lt}
use Rattle.std.specs.Str.{bytes_eq}
use Rattle.handshake.specs.declared.machine.Handshake.{Handshake}
use Rattle.handshake.specs.declared.machine.State.{State}
use Rattle.handshake.specs.declared.machine.State.TheVariants.{WaitingForAuth, WaitingForBegin, Begun}
use Rattle.handshake.specs.declared.machine.Refusal.{Refusal}
use Rattle.handshake.specs.declared.machine.Refusal.TheVariants.{ShortBuffer, AlreadyBegun, EarlyBegin}
use Rattle.handshake.specs.declared.reply.Reply.{Reply}
use Rattle.handshake.specs.declared.reply.Reply.TheVariants as reply
use Rattle.handshake.specs.Lines.{Command, external, other_auth, error, begin, cancel, unknown, read}
use Rattle.handshake.specs.Texts.{credential, wording, onto}

-- what hosts call a refusal
abbrev pub number : Refusal → ℕ
number ShortBuffer = 3
number AlreadyBegun = 4
number EarlyBegin = 5

abbrev pub begun : State → Bool
begun WaitingForAuth = false
begun WaitingForBegin = false
begun Begun = true

-- One turn: the answer, or the refusal, and the state after it.
pub record Turn (X : Type 0) : Type 0 where
  pub answer : Result X Refusal
  pub next : State

abbrev pub says : Reply → State → Turn Reply
says r s = record { answer = Ok r; next = s }

-- a refusal leaves the state
abbrev pub refuses : {X : Type 0} → Refusal → State → Turn X
refuses e s = record { answer = Err e; next = s }

-- a program of the user uid said a line that is read as the command
abbrev pub turn : State → ℕ → Command → Turn Reply
turn WaitingForAuth uid (external text) =
    cond (bytes_eq text (credential uid)) (says reply.Okay WaitingForBegin) (says reply.Rejected WaitingForAuth)
turn WaitingForAuth uid other_auth = says reply.Rejected WaitingForAuth
turn WaitingForAuth uid error = says reply.Rejected WaitingForAuth
turn WaitingForAuth uid begin = refuses EarlyBegin WaitingForAuth
turn WaitingForAuth uid cancel = says reply.Error WaitingForAuth
turn WaitingForAuth uid unknown = says reply.Error WaitingForAuth
turn WaitingForBegin uid (external text) = says reply.Error WaitingForBegin
turn WaitingForBegin uid other_auth = says reply.Error WaitingForBegin
turn WaitingForBegin uid error = says reply.Rejected WaitingForAuth
turn WaitingForBegin uid begin = says reply.Silence Begun
turn WaitingForBegin uid cancel = says reply.Rejected WaitingForAuth
turn WaitingForBegin uid unknown = says reply.Error WaitingForBegin
turn Begun uid command = refuses AlreadyBegun Begun

-- the answer in bytes
abbrev pub worded : List ℕ → Result Reply Refusal → Result (List ℕ) Refusal
worded id (Ok r) = Ok (wording id r)
worded id (Err e) = Err e

-- The machine: from the state, the user, the server's id and the line to the answer and the next state.
abbrev pub machine : State → ℕ → List ℕ → List ℕ → Turn (List ℕ)
machine s uid id line = record { answer = worded id (turn s uid (read line)).answer; next = (turn s uid (read line)).next }

-- The same for a line that comes with a buffer of so many bytes: under 37 it is refused.
abbrev pub heard : State → ℕ → List ℕ → List ℕ → ℕ → Turn (List ℕ)
heard s uid id line room = cond (nat_lt room 37) (refuses ShortBuffer s) (machine s uid id line)

-- how many bytes an answer has
abbrev pub counted : {E : Type 0} → Result (List ℕ) E → Result ℕ E
counted (Ok text) = Ok (length text)
counted (Err e) = Err e

-- an answer is written onto the front of the buffer, a refusal writes nothing
abbrev pub filled : {E : Type 0} → Result (List ℕ) E → List ℕ → List ℕ
filled (Ok text) buffer = onto text buffer
filled (Err e) buffer = buffer

-- a new handshake
abbrev pub fresh : ℕ → Handshake
fresh uid = record { uid = uid; state = WaitingForAuth }

-- the same handshake in another state
abbrev pub moved : Handshake → State → Handshake
moved h s = record { uid = h.uid; state = s }
