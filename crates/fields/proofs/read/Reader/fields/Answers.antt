use Rattle.std.proofs.lemmas.Result.{err_from_is_err_and}
use Rattle.std.proofs.Common.{Err, arith}
use Rattle.fields.specs.Headers.{no_more, bad_one, one_more}
use Rattle.fields.proofs.Parts.{one_on}
use Rattle.fields.proofs.read.Reader.fields.Goals as goal

pub returns-in_err-fields : goal.returns-in_err-fields
returns-in_err-fields g c =
    let f = c.in_err-fields.field-0.0 in
    let p = err_from_is_err_and c.from_residual.result c.from_residual.ensures.1 in
    rw (p.1, p.2) (c.loop-fields.invariant (Err f) (bad_one c.loop-fields-test.true c.in_err-fields.ensures))

pub loop-fields-smaller : goal.loop-fields-smaller
loop-fields-smaller g c =
    let on = one_on g.O.ByteOrder.ordered c.args.self.bytes.now c.args.self.end c.loop-fields.fields _ c.in_ok-fields.ensures in
    omega (arith, on, c.loop-fields-test.true)

pub loop-fields-preserved : goal.loop-fields-preserved
loop-fields-preserved g c = λ r h. c.loop-fields.invariant r (one_more _ c.loop-fields-test.true c.in_ok-fields.ensures h)

pub returns : goal.returns
returns g c = c.loop-fields.invariant _ (no_more c.loop-fields-test.false)
