use Rattle.std.proofs.Common.{sym, ◌∙◌}
use Rattle.stream.specs.Replies.{Denied}
use Rattle.stream.proofs.Exits.{stopped, bad_number}
use Rattle.stream.proofs.Refusals.{no_refusal, no_number, by_place, more_words}
use Rattle.stream.proofs.answer.read_refused.Goals as goal

pub returns-in_err-number : goal.returns-in_err-number
returns-in_err-number c =
    stopped (Denied _) c.from_residual.result _ c.from_residual.ensures.1 (c.in_err-number.ensures.0, no_refusal _ c.in_err-number.ensures.1)

pub returns-then-number-eq-MALFORMED : goal.returns-then-number-eq-MALFORMED
returns-then-number-eq-MALFORMED c =
    by_place _ _ c.in_ok-number.number c.in_ok-number.ensures.0 c.in_ok-number.ensures.1 c.read_malformed.result c.if-number-eq-MALFORMED.true c.read_malformed.ensures

pub returns-in_err-refusal : goal.returns-in_err-refusal
returns-in_err-refusal c =
    stopped (Denied _) c.from_residual-in_err-refusal.result _ c.from_residual-in_err-refusal.ensures.1 (
      λ o. bad_number (sym c.in_err-refusal.ensures.0 ∙ o),
      no_number _ _ c.in_ok-number.number c.in_ok-number.ensures.0 c.in_ok-number.ensures.1 c.if-number-eq-MALFORMED.false c.in_err-refusal.ensures.1,
    )

pub returns-in_err-end : goal.returns-in_err-end
returns-in_err-end c =
    stopped (Denied _) c.from_residual-in_err-end.result _ c.from_residual-in_err-end.ensures.1 (
      c.in_err-end.ensures.0,
      more_words _ _ c.in_ok-number.number c.in_ok-number.ensures.0 c.in_ok-number.ensures.1 c.if-number-eq-MALFORMED.false c.in_err-end.ensures.1,
    )
