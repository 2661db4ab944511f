-- What a whole conversation shows: a program has begun exactly if it has shown who it is.
use Rattle.std.specs.Prelude.{◌≡◌, ℕ, ◌≤◌, ◌⊎◌, List, [], ◌∷◌, ◌++◌, map, length, take, Ok, Err, codes, Result}
use Rattle.std.specs.List.{AllByRecursion}
use Rattle.handshake.specs.declared.machine.State.{State}
use Rattle.handshake.specs.declared.machine.State.TheVariants.{WaitingForAuth, Begun}
use Rattle.handshake.specs.declared.machine.Refusal.{Refusal}
use Rattle.handshake.specs.declared.machine.Refusal.TheVariants.{EarlyBegin}
use Rattle.handshake.specs.declared.reply.Reply.TheVariants as reply
use Rattle.handshake.specs.Texts.{credential, wording}
use Rattle.handshake.specs.Machine.{heard}

-- A line, how many bytes of buffer came with it, and what it was answered: bytes, or a refusal.
pub record Exchange : Type 0 where
  pub line : List ℕ
  pub room : ℕ
  pub answer : Result (List ℕ) Refusal

-- what a call said: so many bytes at the buffer's front, or a refusal
abbrev pub said : Result ℕ Refusal → List ℕ → Result (List ℕ) Refusal
said (Ok n) buffer = Ok (take n buffer)
said (Err e) buffer = Err e

-- a call with a line, by the buffer before it, the result, and the buffer after it
abbrev pub exchanged : List ℕ → List ℕ → Result ℕ Refusal → List ℕ → Exchange
exchanged line before result after = record { line = line; room = length before; answer = said result after }

-- the conversation, each line answered by the rules, leads from the state s to the state t
abbrev pub Leads : List ℕ → ℕ → State → List Exchange → State → Type 0
Leads id uid s [] t = s ≡ t
Leads id uid s (x ∷ xs) t =
    (x.answer ≡ (heard s uid id x.line x.room).answer) × Leads id uid (heard s uid id x.line x.room).next xs t

-- a conversation of a new handshake
abbrev pub Conversation : List ℕ → ℕ → List Exchange → State → Type 0
Conversation id uid xs t = Leads id uid WaitingForAuth xs t

abbrev pub Rejected : List ℕ → Exchange → Type 0
Rejected id x = x.answer ≡ Ok (wording id reply.Rejected)

-- The program has shown who it is: it said AUTH EXTERNAL with exactly the text of its uid, and was answered OK;
-- later it said BEGIN, with room for an answer; and no line between the two was answered REJECTED EXTERNAL.
pub record Authenticated (id : List ℕ) (uid : ℕ) (xs : List Exchange) : Type 0 where
  pub before : List Exchange
  pub auth : Exchange
  pub between : List Exchange
  pub begin : Exchange
  pub after : List Exchange
  pub order : xs ≡ before ++ (auth ∷ (between ++ (begin ∷ after)))
  pub shows : auth.line ≡ codes "AUTH EXTERNAL " ++ credential uid
  pub passes : auth.answer ≡ Ok (wording id reply.Okay)
  pub begins : begin.line ≡ codes "BEGIN"
  pub roomy : 37 ≤ begin.room
  pub kept : AllByRecursion (λ x. Rejected id x → ⊥) between

-- it has begun exactly if it has shown who it is
abbrev pub Law : List ℕ → ℕ → List Exchange → State → Type 0
Law id uid xs t = (t ≡ Begun → Authenticated id uid xs) × (Authenticated id uid xs → t ≡ Begun)

-- the conversation's last line was refused as a BEGIN that came too early, which ends it
abbrev pub Ended : List Exchange → Type 0
Ended xs = (front : List Exchange) × (x : Exchange) × (xs ≡ front ++ (x ∷ [])) × (x.answer ≡ Err EarlyBegin)

abbrev pub spoken : Exchange → List ℕ
spoken x = x.line

-- the conversation has these lines in turn, all of them unless it ended before
abbrev pub Covers : List (List ℕ) → List Exchange → Type 0
Covers lines xs = (map spoken xs ≡ lines) ⊎ ((rest : List (List ℕ)) × (lines ≡ map spoken xs ++ rest) × Ended xs)
