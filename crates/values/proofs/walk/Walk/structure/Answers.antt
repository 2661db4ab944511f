use Rattle.std.proofs.Common.{arith}
use Rattle.values.proofs.Steps.{stopped, struct_fails, struct_moves}
use Rattle.values.proofs.walk.Walk.structure.Goals as goal

pub returns-in_err-self : goal.returns-in_err-self
returns-in_err-self c o =
    let l = rw (c.place.ensures.area, c.place.ensures.at, c.place.ensures.around) at c.in_err-self.ensures in
    stopped _ c.from_residual.result c.from_residual.ensures.1 (struct_fails o c.args.self.now c.requires c.in_err-self.field-0.0 l)

pub returns : goal.returns
returns c o =
    let l = rw (c.place.ensures.area, c.place.ensures.at, c.place.ensures.around) at c.in_ok-self.ensures in
    struct_moves o c.args.self.now c.requires c.in_ok-self.field-0 l c.push.new.self c.push.ensures.items (omega arith)
