-- Examples of bus names.
use Rattle.std.specs.Prelude.{codes}
use Rattle.text.specs.Grammar.{Named, IsBusName}
use Rattle.text.specs.declared.BusName.TheVariants.{Unique, WellKnown}

pub record Examples : Type 0 where
  pub well_known : Named WellKnown (codes "org.melt")
  pub unique : Named Unique (codes ":1.2")
  pub one_element : IsBusName (codes "melt") → ⊥
  pub digit_first : IsBusName (codes "org.2melt") → ⊥
