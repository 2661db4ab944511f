use Rattle.std.proofs.lemmas.Result.{err_from_is_err_and}
use Rattle.message.proofs.checked.check.Goals as goal

pub returns-in_err-layout-clause-value : goal.returns-in_err-layout-clause-value
returns-in_err-layout-clause-value c =
    let p = err_from_is_err_and c.from_residual.result c.from_residual.ensures.1 in
    rw (p.1, p.2) c.in_err-layout.ensures.value

pub invariant_of-result : goal.invariant_of-result
invariant_of-result c = record { is_read = ∣ (c.args.limit, c.in_ok-layout.ensures.value) ∣₁ }
