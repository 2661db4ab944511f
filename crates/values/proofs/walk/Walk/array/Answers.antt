use Rattle.std.proofs.Common.{arith}
use Rattle.values.proofs.Steps.{stopped, element_in, array_fails, array_moves, array_ended}
use Rattle.values.proofs.walk.Walk.array.Goals as goal

pub bounds-self-element : goal.bounds-self-element
bounds-self-element g c = element_in g.O.ByteOrder.ordered c.args.self.now c.requires

pub returns-in_err-span : goal.returns-in_err-span
returns-in_err-span g c =
    let l = rw (c.place.ensures.area, c.place.ensures.at, c.place.ensures.around) at c.in_err-span.ensures in
    stopped _ c.from_residual.result c.from_residual.ensures.1 (array_fails g.O.ByteOrder.ordered c.args.self.now c.requires c.alignment_of-alignment.result c.alignment_of-alignment.ensures c.in_err-span.field-0.0 l)

pub returns-then-span : goal.returns-then-span
returns-then-span g c =
    let l = rw (c.place.ensures.area, c.place.ensures.at, c.place.ensures.around) at c.in_ok-span.ensures in
    array_moves
    g.O.ByteOrder.ordered c.args.self.now c.requires c.alignment_of-alignment.result c.alignment_of-alignment.ensures c.in_ok-span.span l
    c.push.new.self c.push.ensures.items c.if-span.true (omega arith)

pub returns-else-span : goal.returns-else-span
returns-else-span g c =
    let l = rw (c.place.ensures.area, c.place.ensures.at, c.place.ensures.around) at c.in_ok-span.ensures in
    let z = c.past_element-self in
    array_ended
    g.O.ByteOrder.ordered c.args.self.now c.requires c.alignment_of-alignment.result c.alignment_of-alignment.ensures c.in_ok-span.span l
    z.result z.ensures.bound z.ensures.value c.if-span.false (omega arith)
