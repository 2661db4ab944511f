use Rattle.std.proofs.Common.{length}
use Rattle.signature.specs.Phrases.{Types}
use Rattle.signature.proofs.grammar.are_types.Given as goal

abbrev pub invariant-loop-rest : goal.invariant-loop-rest
invariant-loop-rest l = (Types l.rest → Types l.s) × (Types l.s → Types l.rest)

abbrev pub decreases-loop-rest : goal.decreases-loop-rest
decreases-loop-rest l = length l.rest
