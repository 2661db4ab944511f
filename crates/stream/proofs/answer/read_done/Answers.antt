use Rattle.std.proofs.Common.{[], arith}
use Rattle.stream.specs.Replies.{Accepted}
use Rattle.stream.proofs.Exits.{stopped, same_number, bad_number}
use Rattle.stream.proofs.answer.read_done.Goals as goal

pub returns-in_err-number : goal.returns-in_err-number
returns-in_err-number c =
    stopped (Accepted _ _) c.from_residual.result _ c.from_residual.ensures.1 (
      λ o. absurd (c.in_err-number.ensures.0 o),
      λ ne s.
          c.in_err-number.ensures.1 0 [] (omega arith) (omega arith) s,
    )

pub returns-then-number-ne0 : goal.returns-then-number-ne0
returns-then-number-ne0 c = (
  λ o. absurd (bad_number o),
  λ _ s. c.if-number-ne0.true (same_number c.in_ok-number.number 0 (omega (arith, c.in_ok-number.ensures.0)) (omega arith) c.in_ok-number.ensures.1 s),
)
