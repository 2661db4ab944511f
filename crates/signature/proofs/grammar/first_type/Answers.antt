use Rattle.std.proofs.Common.{◌<◌, length, sym, arith}
use Rattle.std.proofs.lemmas.Bool.{eqb-false, eqb-true}
use Rattle.signature.proofs.Fronts.{shorter, types_front, types_of, empty_ends, first_by}
use Rattle.signature.proofs.grammar.first_type.Goals as goal

pub returns-then-is_empty : goal.returns-then-is_empty
returns-then-is_empty c = empty_ends c.args.bytes.now (eqb-true _ _ (sym c.if-is_empty.ensures))

pub returns-in_err-rest : goal.returns-in_err-rest
returns-in_err-rest c =
    let s = c.args.bytes.now in
    let ne = eqb-false _ _ (sym c.if-is_empty.ensures) in
    let l : 0 < length s = omega arith in
    rw c.from_residual.ensures (λ h. let p = types_front s l (types_of s h) in c.in_err-rest.ensures p.0 p.1)

pub overflow_sub-bytes : goal.overflow_sub-bytes
overflow_sub-bytes c =
    omega (arith, shorter c.args.bytes.now c.in_ok-rest.rest.now 32 32 c.in_ok-rest.ensures)

pub returns : goal.returns
returns c =
    first_by c.args.bytes.now c.in_ok-rest.rest.now c.are_types.result c.then_some.result (omega arith) c.in_ok-rest.ensures c.are_types.ensures c.then_some.ensures
