-- Values come to one result: the relations of the values are functions.
use Rattle.std.proofs.Common.{◌≡◌, ℕ, ◌+◌, List, [], take, Ok, Err, Result, sym, refl, ap, ◌∙◌, subst, arith}
use Rattle.signature.specs.Codes.{align}
use Rattle.signature.specs.Trees.{Tree, Element, Trees, more, head_of_element}
use Rattle.signature.proofs.Spellings.{once}
use Rattle.items.specs.declared.fault.Flaw.{Flaw}
use Rattle.items.specs.declared.Span.{Span}
use Rattle.items.proofs.Once.{ok_inj, never, leaf_one, typed_one, opened_one, headed_one}
use Rattle.values.specs.Values.{Value, leaf, struct_bad, struct_is, array_bad, array_is, variant_bad, variant_is, Values, ends, goes, fails, Elements, no_more, one_more, bad_one, Decided}

module _ (ordered : List ℕ → List ℕ) (bytes : List ℕ) where
  abbrev area : ℕ → List ℕ
  area end = take end bytes

  mutual
    pub value_one : {around end : ℕ} {t : Tree} {p : ℕ} {r : Result ℕ Flaw} → Value ordered bytes around end t p r → (q : Result ℕ Flaw) → Value ordered bytes around end t p q → r ≡ q
    value_one (leaf {around} {end} {p} {b} {r} h) q (leaf k) = leaf_one (area end) ordered b around p r q h k
    value_one (struct_bad {around} {end} {p} {f = f} h) q (struct_bad {f = g} k) = opened_one (area end) around p (Err f) (Err g) h k
    value_one (struct_bad {around} {end} {p} {f = f} h) q (struct_is y k u) = never y f (opened_one (area end) around p (Ok y) (Err f) k h)
    value_one (struct_is {around} {end} {p} x h v) q (struct_bad {f = g} k) = never x g (opened_one (area end) around p (Ok x) (Err g) h k)
    value_one (struct_is {around} {end} {p} {t} {ts} x h v) q (struct_is y k u) =
        values_one v q (subst (λ (z : ℕ). Values ordered bytes (around + 1) end (more t ts) z q) (sym (ok_inj x y (opened_one (area end) around p (Ok x) (Ok y) h k))) u)
    value_one (array_bad {around} {end} {p} {e} {f} h) q (array_bad {f = g} k) =
        let same = headed_one (area end) ordered (align (head_of_element e)) around p (Err f) (Err g) h k in
        let inner : f ≡ g = cc in
        ap Err inner
    value_one (array_bad {around} {end} {p} {e} {f} h) q (array_is y k u) = never y f (headed_one (area end) ordered (align (head_of_element e)) around p (Ok y) (Err f) k h)
    value_one (array_is {around} {end} {p} {e} x h v) q (array_bad {f = g} k) = never x g (headed_one (area end) ordered (align (head_of_element e)) around p (Ok x) (Err g) h k)
    value_one (array_is {around} {end} {p} {e} x h v) q (array_is y k u) =
        elements_one v q (subst (λ (z : Span). Elements ordered bytes (around + 1) z.to e z.from q) (sym (ok_inj x y (headed_one (area end) ordered (align (head_of_element e)) around p (Ok x) (Ok y) h k))) u)
    value_one (variant_bad {around} {end} {p} {f} h) q (variant_bad {f = g} k) = typed_one (area end) around p (Err f) (Err g) h k
    value_one (variant_bad {around} {end} {p} {f} h) q (variant_is y k s u) = never y f (typed_one (area end) around p (Ok y) (Err f) k h)
    value_one (variant_is {around} {end} {p} x h s v) q (variant_bad {f = g} k) = never x g (typed_one (area end) around p (Ok x) (Err g) h k)
    value_one (variant_is {around} {end} {p} {t} x h s v) q (variant_is {t = u} y k z w) =
        let place = sym (ok_inj x y (typed_one (area end) around p (Ok x) (Ok y) h k)) in
        let same = sym (once t u [] [] (s ∙ sym z)).0 in
        value_one v q (subst (λ (a : Tree). Value ordered bytes (around + 1) end a x q) same (subst (λ (a : ℕ). Value ordered bytes (around + 1) end u a q) place w))

    pub values_one : {around end : ℕ} {ts : Trees} {p : ℕ} {r : Result ℕ Flaw} → Values ordered bytes around end ts p r → (q : Result ℕ Flaw) → Values ordered bytes around end ts p q → r ≡ q
    values_one ends q ends = refl
    values_one (goes {around} {end} {ts = ts} x v w) q (goes y u z) =
        values_one w q (subst (λ (a : ℕ). Values ordered bytes around end ts a q) (sym (ok_inj x y (value_one v (Ok y) u))) z)
    values_one (goes x v w) q (fails {f = g} u) = never x g (value_one v (Err g) u)
    values_one (fails {f = f} v) q (goes y u z) = never y f (sym (value_one v (Ok y) u))
    values_one (fails v) q (fails {f = g} u) = value_one v (Err g) u

    pub elements_one : {around end : ℕ} {e : Element} {p : ℕ} {r : Result ℕ Flaw} → Elements ordered bytes around end e p r → (q : Result ℕ Flaw) → Elements ordered bytes around end e p q → r ≡ q
    elements_one (no_more h) q (no_more k) = refl
    elements_one (no_more h) q (one_more y l u z) = absurd (omega (arith, l, h))
    elements_one (no_more h) q (bad_one l u) = absurd (omega (arith, l, h))
    elements_one (one_more x l v w) q (no_more k) = absurd (omega (arith, l, k))
    elements_one (one_more {around} {end} {e = e} x l v w) q (one_more y m u z) =
        elements_one w q (subst (λ (a : ℕ). Elements ordered bytes around end e a q) (sym (ok_inj x y (value_one v (Ok y) u))) z)
    elements_one (one_more x l v w) q (bad_one {f = g} m u) = never x g (value_one v (Err g) u)
    elements_one (bad_one l v) q (no_more k) = absurd (omega (arith, l, k))
    elements_one (bad_one {f = f} l v) q (one_more y m u z) = never y f (sym (value_one v (Ok y) u))
    elements_one (bad_one l v) q (bad_one {f = g} m u) = value_one v (Err g) u

pub decided : Decided
decided ordered bytes end ts at r q h k = values_one ordered bytes h q k
