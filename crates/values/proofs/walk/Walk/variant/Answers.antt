use Rattle.std.proofs.Common.{arith}
use Rattle.values.proofs.Steps.{stopped, variant_fails, variant_moves}
use Rattle.values.proofs.walk.Walk.variant.Goals as goal

pub returns-in_err-at : goal.returns-in_err-at
returns-in_err-at c o =
    let l = rw (c.place.ensures.area, c.place.ensures.at, c.place.ensures.around) at c.in_err-at.ensures in
    stopped _ c.from_residual.result c.from_residual.ensures.1 (variant_fails o c.args.self.now c.requires c.in_err-at.field-0.0 l)

pub returns : goal.returns
returns c o =
    let l = rw (c.place.ensures.area, c.place.ensures.at, c.place.ensures.around) at c.in_ok-at.ensures in
    variant_moves o c.args.self.now c.requires c.in_ok-at.at l c.push.new.self c.push.ensures.items (omega arith)
