-- What a step answers, and what the set and the buffer hold after it.
use Rattle.std.specs.Prelude.{◌≡◌, List, ℕ, length}
use Rattle.mailbox.specs.Lists.{Lists, waiting, put_answer, put_after, take_answer, take_after, take_buffer, clear_after}
use Rattle.steps.specs.declared.Outcome.{Outcome}
use Rattle.steps.specs.declared.Outcome.TheVariants.{Put, Taken, Cleared, Counted}
use Rattle.steps.specs.declared.Step.{Step}
use Rattle.steps.specs.declared.Step.TheVariants as step

-- of a set where so many may wait, with a buffer of so many bytes
abbrev pub outcome : ℕ → Lists → Step → ℕ → Outcome
outcome bound ls (step.Put c message) room = Put (put_answer bound ls c message.now)
outcome bound ls (step.Take c) room = Taken (take_answer (waiting ls c) room)
outcome bound ls (step.Clear c) room = Cleared
outcome bound ls (step.Count c) room = Counted (length (waiting ls c))

abbrev pub lists_after : ℕ → Lists → Step → ℕ → Lists
lists_after bound ls (step.Put c message) room = put_after bound ls c message.now
lists_after bound ls (step.Take c) room = take_after ls c room
lists_after bound ls (step.Clear c) room = clear_after ls c
lists_after bound ls (step.Count c) room = ls

abbrev pub buffer_after : Lists → Step → List ℕ → List ℕ
buffer_after ls (step.Put c message) buffer = buffer
buffer_after ls (step.Take c) buffer = take_buffer (waiting ls c) buffer
buffer_after ls (step.Clear c) buffer = buffer
buffer_after ls (step.Count c) buffer = buffer

-- two sets mean the same, and their buffers hold the same
pub record Alike (bound : ℕ) (ls : Lists) (buffer : List ℕ) (bound' : ℕ) (ls' : Lists) (buffer' : List ℕ) : Type 0 where
  pub bounds : bound ≡ bound'
  pub lists : ls ≡ ls'
  pub buffers : buffer ≡ buffer'
