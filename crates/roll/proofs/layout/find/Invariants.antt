use Rattle.roll_records.proofs.Rows.{Walk}
use Rattle.roll.proofs.layout.find.Given as goal

abbrev pub invariant-loop-k : goal.invariant-loop-k
invariant-loop-k l = Walk l.area l.records l.c.number l.at l._k
