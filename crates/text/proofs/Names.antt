-- Bus names: the examples, and that a name is of one kind.
use Rattle.std.proofs.Common.{◌≡◌, ℕ, List, [], ◌∷◌, ◌++◌, Some, codes, refl, arith, rules}
use Rattle.text.specs.declared.BusName.{BusName}
use Rattle.text.specs.declared.BusName.TheVariants as bus
use Rattle.text.specs.declared.element.Kind.TheVariants.{WellKnown as OfWellKnown}
use Rattle.text.specs.Grammar.{Element, Named, IsBusName, Told}
use Rattle.text.specs.Examples.{Examples}
use Rattle.text.specs.Scans.{Follows}
use Rattle.text.proofs.Rows.{no_led_empty, no_led_element, others}

well_known : Named bus.WellKnown (codes "org.melt")
well_known = record {
  short = omega arith;
  dotted = record { elements = codes "org" ∷ codes "melt" ∷ []; some = omega arith; valid = search rules; spells = refl };
}

unique : Named bus.Unique (codes ":1.2")
unique = record {
  short = omega arith;
  name = codes "1.2";
  dotted = record { elements = codes "1" ∷ codes "2" ∷ []; some = omega arith; valid = search rules; spells = refl };
  spells = refl;
}

melt : Follows OfWellKnown (codes "melt") []
melt = record { element = codes "melt"; valid = search rules; spells = refl; ended = tt }

one_element : IsBusName (codes "melt") → ⊥
one_element (bus.WellKnown, n) = no_led_empty 46 OfWellKnown [] refl (others OfWellKnown (codes "melt") [] melt n.dotted)
one_element (bus.Unique, n) = let e = n.spells in let z : ◌≡◌ {A = ℕ} 58 109 = cc in omega arith

org : Follows OfWellKnown (codes "org.2melt") (codes ".2melt")
org = record { element = codes "org"; valid = search rules; spells = refl; ended = search rules }

two_first : (element rest : List ℕ) → Element OfWellKnown element → element ++ rest ≡ codes "2melt" → ⊥
two_first [] rest h e = h
two_first (b ∷ bs) rest h e = let two : b ≡ 50 = cc in h.0.1 (omega arith, omega arith)

digit_first : IsBusName (codes "org.2melt") → ⊥
digit_first (bus.WellKnown, n) = no_led_element 46 OfWellKnown (codes ".2melt") (codes "2melt") refl two_first (others OfWellKnown (codes "org.2melt") (codes ".2melt") org n.dotted)
digit_first (bus.Unique, n) = let e = n.spells in let z : ◌≡◌ {A = ℕ} 58 111 = cc in omega arith

pub examples : Examples
examples = record { well_known = well_known; unique = unique; one_element = one_element; digit_first = digit_first }

-- no bytes are bus names of two kinds
pub one_kind : (kind other : BusName) (bytes : List ℕ) → Named kind bytes → Named other bytes → other ≡ kind
one_kind bus.WellKnown bus.WellKnown bytes n m = refl
one_kind bus.WellKnown bus.Unique bytes n m = let d = n.dotted in grind arith
one_kind bus.Unique bus.WellKnown bytes n m = let d = m.dotted in grind arith
one_kind bus.Unique bus.Unique bytes n m = refl

pub told : (kind : BusName) (bytes : List ℕ) → Named kind bytes → Told bytes (Some kind)
told kind bytes n = (n, λ other m. one_kind kind other bytes n m)
