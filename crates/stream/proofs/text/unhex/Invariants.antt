use Rattle.std.proofs.Common.{◌≡◌, ◌++◌, length, vec_items}
use Rattle.hex_digits.specs.Hex.{pairs}
use Rattle.stream.specs.Spelling.{Bytes}
use Rattle.stream.proofs.text.unhex.Given as goal

abbrev pub invariant-loop-rest : goal.invariant-loop-rest
invariant-loop-rest l = Bytes (vec_items l.bytes) × (l.initial.rest ≡ pairs (vec_items l.bytes) ++ l.rest)

abbrev pub decreases-loop-rest : goal.decreases-loop-rest
decreases-loop-rest l = length l.rest
