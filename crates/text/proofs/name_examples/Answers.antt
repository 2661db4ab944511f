use Rattle.std.proofs.Common.{codes, rules}
use Rattle.text.specs.declared.BusName.TheVariants.{Unique, WellKnown}
use Rattle.text.proofs.Names.{examples, told}
use Rattle.text.proofs.name_examples.Goals as goal

pub returns-then-tells-3 : goal.returns-then-tells-3
returns-then-tells-3 c = record { agrees = c.tells-then-tells-3.ensures.1 examples.digit_first; theorem = examples }

pub returns-else-tells-3 : goal.returns-else-tells-3
returns-else-tells-3 c =
    let all = examples in
    let first = told WellKnown (codes "org.melt") all.well_known in
    let second = told Unique (codes ":1.2") all.unique in
    record { agrees = search rules; theorem = examples }
