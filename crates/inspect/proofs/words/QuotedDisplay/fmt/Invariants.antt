use Rattle.std.proofs.Common.{◌≤◌}
use Rattle.inspect.proofs.words.QuotedDisplay.fmt.Given as goal

abbrev pub invariant-loop-b : goal.invariant-loop-b
invariant-loop-b g l = l.size ≤ 64
