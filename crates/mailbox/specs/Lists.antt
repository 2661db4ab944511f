-- What a mailbox set means: sixteen lists of messages, the oldest first, and what each call makes of them.
use Rattle.std.specs.Prelude.{◌≡◌, ℕ, ◌<◌, ◌≤◌, Bool, cond, ◌||◌, List, [], ◌∷◌, ◌++◌, map, length, drop, Ok, Err, Result, ◌==◌, nat_le, nat_lt, slice_index_or, slice_set}
use Rattle.std.specs.List.{range_with_len}
use Rattle.mailbox.specs.declared.Refusal.{Refusal}
use Rattle.mailbox.specs.declared.Refusal.TheVariants.{NoMailbox, BadLength, Full, ShortBuffer}

-- by connection, messages, and each a list of bytes
abbrev pub Lists : Type 0
Lists = List (List (List ℕ))

-- what waits for c; nothing for a connection that there is not
abbrev pub waiting : Lists → ℕ → List (List ℕ)
waiting ls c = slice_index_or ls c []

-- how long a message may be
abbrev pub IsSize : ℕ → Type 0
IsSize n = (0 < n) × (n ≤ 1024)

-- What holds of every mailbox set, whatever it was asked to do.
pub record Laws {S : Type 0} (lists : S → Lists) (bound : S → ℕ) : Type 0 where
  pub sixteen : (s : S) → length (lists s) ≡ 16
  pub within : (s : S) (c : ℕ) → length (waiting (lists s) c) ≤ bound s
  pub sized : (s : S) (c p : ℕ) → p < length (waiting (lists s) c) → IsSize (length (slice_index_or (waiting (lists s) c) p []))

-- sixteen lists from a function of the connection
unfoldable pub tabled : (ℕ → List (List ℕ)) → Lists
tabled f = map f (range_with_len 0 16)

-- a mailbox takes messages of 1 to 1,024 bytes
abbrev pub misfit : List ℕ → Bool
misfit message = length message == 0 || nat_lt 1024 (length message)

-- a message for c, where so many may wait
abbrev pub put_answer : ℕ → Lists → ℕ → List ℕ → Result (Unit {0}) Refusal
put_answer bound ls c message =
    cond (nat_lt 15 c)
    (Err NoMailbox)
    (cond (misfit message) (Err BadLength) (cond (nat_le bound (length (waiting ls c))) (Err Full) (Ok tt)))

-- an accepted message is the last, a refused one changes nothing
abbrev pub added : Result (Unit {0}) Refusal → Lists → ℕ → List ℕ → Lists
added (Ok done) ls c message = slice_set ls c (waiting ls c ++ (message ∷ []))
added (Err e) ls c message = ls

abbrev pub put_after : ℕ → Lists → ℕ → List ℕ → Lists
put_after bound ls c message = added (put_answer bound ls c message) ls c message

-- of what waits for one connection, with a buffer of so many bytes
abbrev pub take_answer : List (List ℕ) → ℕ → Result ℕ Refusal
take_answer [] room = Ok 0
take_answer (m ∷ ms) room = cond (nat_le (length m) room) (Ok (length m)) (Err ShortBuffer)

abbrev pub taken : List (List ℕ) → ℕ → List (List ℕ)
taken [] room = []
taken (m ∷ ms) room = cond (nat_le (length m) room) ms (m ∷ ms)

abbrev pub take_after : Lists → ℕ → ℕ → Lists
take_after ls c room = slice_set ls c (taken (waiting ls c) room)

-- the message stands at the buffer's front, and the rest is as it was
abbrev pub take_buffer : List (List ℕ) → List ℕ → List ℕ
take_buffer [] buffer = buffer
take_buffer (m ∷ ms) buffer = cond (nat_le (length m) (length buffer)) (m ++ drop (length m) buffer) buffer

abbrev pub clear_after : Lists → ℕ → Lists
clear_after ls c = slice_set ls c []
