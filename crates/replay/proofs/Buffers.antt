-- What a call wrote to its buffer, from the count and the buffer after it.
use Rattle.std.proofs.Common.{◌≡◌, ℕ, List, length, take, Ok, Err, Result, refl, ap, ◌∙◌}
use Rattle.std.proofs.lemmas.List.{take_at}
use Rattle.handshake.specs.Machine.{counted, filled}
use Rattle.lives.specs.declared.calls.Refusal.{Refusal}
use Rattle.lives.specs.Calls.{numbered}
use Rattle.stream.specs.Replies.{Said, wrote, refused}
use Rattle.replay.specs.Outcomes.{wrote_or_refused}

module _ (out : List ℕ) where
  -- what is said by the count and the buffer
  abbrev from_buffer : Result (List ℕ) Refusal → Result ℕ Refusal → Said
  from_buffer a (Ok n) = wrote (take n (filled a out))
  from_buffer a (Err e) = refused (numbered e)

  back : (a : Result (List ℕ) Refusal) → from_buffer a (counted a) ≡ wrote_or_refused a
  back (Ok text) = ap wrote (take_at text _ (length text) refl)
  back (Err e) = refl

  pub counted_back : (a : Result (List ℕ) Refusal) (n : ℕ) → Ok n ≡ counted a → wrote (take n (filled a out)) ≡ wrote_or_refused a
  counted_back a n e = ap (from_buffer a) e ∙ back a

  pub refused_back : (a : Result (List ℕ) Refusal) (e : Refusal) → Err e ≡ counted a → refused (numbered e) ≡ wrote_or_refused a
  refused_back a e f = ap (from_buffer a) f ∙ back a
