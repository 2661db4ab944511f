-- Which bytes are a message.
use Rattle.std.specs.Prelude.{◌≡◌, true, List, ℕ, Result, MatchResult}
use Rattle.std.specs.Borrow.{Bor}
use Rattle.mailbox.specs.declared.Refusal.{Refusal}
use Rattle.mailbox.specs.declared.Refusal.TheVariants.{BadLength}
use Rattle.mailbox.specs.declared.message.Message.{Message}
use Rattle.mailbox.specs.Lists.{misfit}

-- bytes that fit are the message, and all others are of a bad length
abbrev pub Fits : Bor (List ℕ) → Result Message Refusal → Type 0
Fits bytes r = MatchResult r (λ m. m.bytes.now ≡ bytes.now) (λ e. (e ≡ BadLength) × (misfit bytes.now ≡ true))
