use Rattle.std.proofs.Common.{◌+◌, ◌*◌, length}
use denote.Text.{Utf8}
use denote.Shadow.{shadow}
use Rattle.inspect.proofs.value.Shown.+array_value_values_variant.Given as goal

abbrev pub decreases-array : goal.decreases-array
decreases-array g l = 2 * l.levels + 1

abbrev pub decreases-value : goal.decreases-value
decreases-value g l = 2 * l.levels

abbrev pub decreases-values : goal.decreases-values
decreases-values g l = 2 * l.levels + 1

abbrev pub decreases-variant : goal.decreases-variant
decreases-variant g l = 2 * l.levels + 1

-- what stands before the next element is text
abbrev pub invariant-array-loop : goal.invariant-array-loop
invariant-array-loop g l = shadow (Utf8 l.before)

abbrev pub invariant-values-loop-left : goal.invariant-values-loop-left
invariant-values-loop-left g l = shadow (Utf8 l.before)

abbrev pub decreases-values-loop-left : goal.decreases-values-loop-left
decreases-values-loop-left g l = length l.left
