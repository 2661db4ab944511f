use Rattle.values.specs.Walks.{weight}
use Rattle.values.proofs.Runs.{Through}
use Rattle.values.proofs.walk.walked.Given as goal

abbrev pub invariant-loop-walk : goal.invariant-loop-walk
invariant-loop-walk g l = Through g.O.ByteOrder.ordered l.bytes l.fn.codes l.at l.end l.walk

abbrev pub decreases-loop-walk : goal.decreases-loop-walk
decreases-loop-walk g l = weight l.walk
