use Rattle.std.proofs.Common.{arith}
use Rattle.values.proofs.Steps.{stopped, basic_fails, basic_moves}
use Rattle.values.proofs.walk.Walk.basic.Goals as goal

pub returns-in_err-self : goal.returns-in_err-self
returns-in_err-self g c =
    let l = rw (c.place.ensures.area, c.place.ensures.at, c.place.ensures.around) at c.in_err-self.ensures in
    stopped _ c.from_residual.result c.from_residual.ensures.1 (basic_fails g.O.ByteOrder.ordered c.args.self.now c.args.kind c.requires c.in_err-self.field-0.0 l)

pub returns : goal.returns
returns g c =
    let l = rw (c.place.ensures.area, c.place.ensures.at, c.place.ensures.around) at c.in_ok-self.ensures in
    basic_moves g.O.ByteOrder.ordered c.args.self.now c.args.kind c.requires c.in_ok-self.field-0 l (omega arith) (omega arith)
