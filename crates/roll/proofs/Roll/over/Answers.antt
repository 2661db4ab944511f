use Rattle.std.proofs.Common.{refl}
use Rattle.mailbox.specs.Lists.{tabled}
use Rattle.roll.proofs.Roll.over.Goals as goal

pub returns-clause-empty : goal.returns-clause-empty
unfolding tabled
returns-clause-empty c = refl
