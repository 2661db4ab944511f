use Rattle.values.proofs.Steps.{code_in, no_head}
use Rattle.values.proofs.walk.Walk.open.Goals as goal

pub bounds-self-self : goal.bounds-self-self
bounds-self-self g c = code_in c.args.self.now c.requires.value c.requires.here

pub unreachable-requires : goal.unreachable-requires
unreachable-requires g c = absurd (no_head c.args.self.now c.requires.value c.requires.here c.in-Err.ensures)
