use Rattle.std.proofs.Common.{length}
use Rattle.text.specs.Grammar.{Led}
use Rattle.text.proofs.element.is_led.Given as goal

abbrev pub invariant-loop-rest : goal.invariant-loop-rest
invariant-loop-rest l =
    (Led l.separator l.kind l.left → Led l.separator l.kind l.initial.left)
    × (Led l.separator l.kind l.initial.left → Led l.separator l.kind l.left)

abbrev pub decreases-loop-rest : goal.decreases-loop-rest
decreases-loop-rest l = length l.left
