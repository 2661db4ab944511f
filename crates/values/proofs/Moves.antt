-- Values end behind where they begin.
use Rattle.std.proofs.Common.{ℕ, ◌≤◌, List, take, Ok, Err, Result, arith}
use Rattle.signature.specs.declared.codes.Basic.{Basic}
use Rattle.signature.specs.Codes.{align}
use Rattle.signature.specs.Trees.{Tree, Element, Trees, none, more, head_of_element}
use Rattle.items.specs.declared.fault.Flaw.{Flaw}
use Rattle.items.specs.Items.{Leaf}
use Rattle.items.proofs.Once.{leaf_moves, typed_moves, opened_moves, headed_moves}
use Rattle.values.specs.Values.{Value, leaf, struct_bad, struct_is, array_bad, array_is, variant_bad, variant_is, Values, ends, goes, fails, Elements, no_more, one_more, bad_one}

-- where it is well, it ends at p or behind it
abbrev pub Onward : ℕ → Result ℕ Flaw → Type 0
Onward p (Ok q) = p ≤ q
Onward p (Err f) = Unit {0}

from_earlier : (p q : ℕ) (r : Result ℕ Flaw) → p ≤ q → Onward q r → Onward p r
from_earlier p q (Ok z) l h = omega arith
from_earlier p q (Err f) l h = tt

module _ (ordered : List ℕ → List ℕ) (bytes : List ℕ) where
  leaf_onward : (end : ℕ) (b : Basic) (around p : ℕ) (r : Result ℕ Flaw) → Leaf (take end bytes) ordered b around p r → Onward p r
  leaf_onward end b around p (Ok q) h = omega (arith, (leaf_moves (take end bytes) ordered b around p q h).0)
  leaf_onward end b around p (Err f) h = tt

  mutual
    pub value_onward : {around end : ℕ} {t : Tree} {p : ℕ} {r : Result ℕ Flaw} → Value ordered bytes around end t p r → Onward p r
    value_onward (leaf {around} {end} {p} {b} {r} h) = leaf_onward end b around p r h
    value_onward (struct_bad h) = tt
    value_onward (struct_is {around} {end} {p} {r = r} q h v) = from_earlier p q r (opened_moves (take end bytes) around p q h).0 (values_onward v)
    value_onward (array_bad h) = tt
    value_onward (array_is {around} {end} {p} {e} {r} s h v) =
        from_earlier p s.from r (omega (arith, (headed_moves (take end bytes) ordered (align (head_of_element e)) around p s h).0)) (elements_onward v)
    value_onward (variant_bad h) = tt
    value_onward (variant_is {around} {end} {p} {r = r} q h s v) = from_earlier p q r (omega (arith, (typed_moves (take end bytes) around p q h).0)) (value_onward v)

    pub values_onward : {around end : ℕ} {ts : Trees} {p : ℕ} {r : Result ℕ Flaw} → Values ordered bytes around end ts p r → Onward p r
    values_onward (ends {p = p}) = omega arith
    values_onward (goes {p = p} {r = r} q v w) = from_earlier p q r (value_onward v) (values_onward w)
    values_onward (fails v) = tt

    pub elements_onward : {around end : ℕ} {e : Element} {p : ℕ} {r : Result ℕ Flaw} → Elements ordered bytes around end e p r → Onward p r
    elements_onward (no_more {p = p} h) = omega arith
    elements_onward (one_more {p = p} {r = r} q l v w) = from_earlier p q r (value_onward v) (elements_onward w)
    elements_onward (bad_one l v) = tt

-- a list of one type is that type
pub one_value : {ordered : List ℕ → List ℕ} {bytes : List ℕ} {around end : ℕ} {t : Tree} {p : ℕ} {r : Result ℕ Flaw} → Values ordered bytes around end (more t none) p r → Value ordered bytes around end t p r
one_value (goes q v ends) = v
one_value (fails v) = v
