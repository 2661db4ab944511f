use Rattle.std.proofs.Common.{◌≡◌, length, get_or, arith, rules}
use Rattle.stream.proofs.Numbers.{parsed, no_none, no_plus, no_lead, no_utf8, of_none, of_some}
use Rattle.stream.proofs.text.number.Goals as goal
use Rattle.stream.proofs.text.number.Goals.{in_default-via-then-text-lt2+in_default-1, in_default-via-else-text-lt2+in_default-1}

pub returns-in-empty : goal.returns-in-empty
returns-in-empty c = no_none c.args.text.now (omega (arith, c.in-empty.len_below))

pub returns-in-empty-2 : goal.returns-in-empty-2
returns-in-empty-2 c = no_plus c.args.text.now (omega (arith, c.in-empty.len_at_least)) (search rules)

pub returns-in-empty-3 : goal.returns-in-empty-3
returns-in-empty-3 c = no_plus c.args.text.now (omega (arith, c.in-empty.len_at_least)) (search rules)

pub returns-in-empty-4 : goal.returns-in-empty-4
returns-in-empty-4 c = no_lead c.args.text.now (omega (arith, c.in-empty.len_at_least)) (search rules)

pub returns-in_err-ok-in_default : goal.returns-in_err-ok-in_default
returns-in_err-ok-in_default c =
    rw c.from_residual.ensures (no_utf8 c.args.text.now (of_none _ _ c.from_utf8.result c.from_utf8.ensures.cases c.in_err-ok-in_default.ensures.value).1.0)

pub returns-in_ok-ok-in_default : goal.returns-in_ok-ok-in_default
returns-in_ok-ok-in_default c =
    let plus : get_or c.args.text.now 0 0 ≡ 43 → ⊥ = elim c.in_default.branch [
      | in_default-via-then-text-lt2+in_default-1 w ↦ search rules
      | in_default-via-else-text-lt2+in_default-1 w ↦ search rules
    ] in
    let zero : get_or c.args.text.now 0 0 ≡ 48 → length c.args.text.now ≡ 1 = elim c.in_default.branch [
      | in_default-via-then-text-lt2+in_default-1 w ↦ λ e. grind arith
      | in_default-via-else-text-lt2+in_default-1 w ↦ λ e. grind arith
    ] in
    let e = of_some _ _ c.from_utf8.result c.in_ok-ok-in_default.field-0 c.from_utf8.ensures.cases c.in_ok-ok-in_default.ensures.value in
    rw c.ok-in_default.ensures.value (parsed _ c.args.text.now c.parse.result (rw e.0 at c.parse.ensures.value.0) plus zero)
