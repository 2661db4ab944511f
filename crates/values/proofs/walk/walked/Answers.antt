use Rattle.std.proofs.Common.{refl}
use Rattle.values.proofs.Runs.{begun, stepped, finished}
use Rattle.values.proofs.walk.walked.Goals as goal

pub loop-walk-init : goal.loop-walk-init
loop-walk-init g c = begun g.O.ByteOrder.ordered c.args.bytes.now c.args.codes c.args.at c.args.end _ refl refl refl refl refl refl c.new.ensures c.requires.codes c.requires.place.0 c.requires.place.1

pub loop-walk-smaller : goal.loop-walk-smaller
loop-walk-smaller g c = (c.close.ensures g.O.ByteOrder.ordered).falls

pub loop-walk-preserved : goal.loop-walk-preserved
loop-walk-preserved g c = stepped g.O.ByteOrder.ordered c.args.bytes.now c.args.codes c.args.at c.args.end c.loop-walk.walk c.close.new.self c.loop-walk.invariant (c.close.ensures g.O.ByteOrder.ordered)

pub returns : goal.returns
returns g c = finished g.O.ByteOrder.ordered c.args.bytes.now c.args.codes c.args.at c.args.end c.loop-walk.walk c.loop-walk.invariant (c.is_done.ensures.0 c.loop-walk-test.false)
