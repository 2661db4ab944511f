-- Bytes as an element and what follows it: there is one way to part them.
use Rattle.std.proofs.Common.{◌≡◌, ℕ, zero, suc, ◌<◌, ◌≤◌, Bool, false, List, [], ◌∷◌, ◌++◌, length, get_or, take, drop, Decides, None, Some, Option, MatchOption, sym, refl, ap, ◌∙◌, subst, ap₂, append-nil, arith}
use Rattle.std.specs.List.{AllByRecursion}
use Rattle.std.proofs.ByRecursion.{All-from_get_or}
use Rattle.std.proofs.lemmas.Bool.{false≢true}
use Rattle.std.proofs.lemmas.Bool.Decides.{Decides-like}
use Rattle.std.specs.Borrow.{Bor}
use Rattle.std.proofs.lemmas.List.{get_or-take, length-take-le, nil_from_length, take-append-drop}
use Rattle.text.specs.Grammar.{Holds, Begins, Element}
use Rattle.text.specs.Scans.{Ended, Follows, After}
use Rattle.text.specs.declared.element.Kind.{Kind}

module _ (kind : Kind) where
  pub all_held : (bytes : List ℕ) → Element kind bytes → AllByRecursion (Holds kind) bytes
  all_held [] h = absurd h
  all_held (b ∷ bs) h = (h.0.0, h.1)

  -- what is held at the front, up to a byte that is not held
  pub one_way : (xs ys rest more : List ℕ) → AllByRecursion (Holds kind) xs → AllByRecursion (Holds kind) ys → Ended kind rest → Ended kind more → xs ++ rest ≡ ys ++ more → (xs ≡ ys) × (rest ≡ more)
  one_way [] [] rest more h k r m e = (refl, e)
  one_way [] (y ∷ ys) rest more h k r m e = absurd (subst (Ended kind) e r k.0)
  one_way (x ∷ xs) [] rest more h k r m e = absurd (subst (Ended kind) (sym e) m h.0)
  one_way (x ∷ xs) (y ∷ ys) rest more h k r m e =
      let head : x ≡ y = cc in
      let tail : xs ++ rest ≡ ys ++ more = cc in
      let both = one_way xs ys rest more h.1 k.1 r m tail in
      (ap₂ ◌∷◌ head both.0, both.1)

  -- a byte that is not held ends an element
  ended_drop : (rest : List ℕ) (n : ℕ) → (n < length rest → Holds kind (get_or rest n 0) → ⊥) → Ended kind (drop n rest)
  ended_drop [] zero h = tt
  ended_drop [] (suc n) h = tt
  ended_drop (b ∷ bs) zero h = h (omega arith)
  ended_drop (b ∷ bs) (suc n) h = ended_drop bs n (λ l. h (omega arith))

  pub follows : (first n : ℕ) (rest bytes : List ℕ) → bytes ≡ first ∷ rest → Begins kind first → n ≤ length rest → ((k : ℕ) → k < n → Holds kind (get_or rest k 0)) → (n < length rest → Holds kind (get_or rest n 0) → ⊥) → Follows kind bytes (drop n rest)
  follows first n rest bytes e b within before after =
      let long = length-take-le n rest within in
      record {
        element = first ∷ take n rest;
        valid = (b, All-from_get_or (Holds kind) (take n rest) 0 (λ k l. let m : k < n = omega arith in rw get_or-take (before k m)));
        spells = ap (λ (t : List ℕ). first ∷ t) (take-append-drop n rest) ∙ sym e;
        ended = ended_drop rest n after;
      }

  -- the bytes are one element exactly if nothing follows
  whole : (bytes rest : List ℕ) → Follows kind bytes rest → length rest ≡ 0 → Element kind bytes
  whole bytes rest f n =
      subst (Element kind) (sym (append-nil f.element) ∙ ap (λ (t : List ℕ). f.element ++ t) (sym (nil_from_length rest n)) ∙ f.spells) f.valid

  none_left : (bytes rest : List ℕ) → Follows kind bytes rest → Element kind bytes → length rest ≡ 0
  none_left bytes rest f h =
      let both = one_way f.element bytes rest [] (all_held f.element f.valid) (all_held bytes h) f.ended tt (f.spells ∙ sym (append-nil bytes)) in
      ap length both.1

  -- what a test of the rest for emptiness tells
  pub element_by : (bytes : List ℕ) (o : Option (Bor (List ℕ))) (r : Bool) {R : Bor (List ℕ) → Type 0} → ((rest : Bor (List ℕ)) → R rest → Decides r (length rest.now ≡ 0)) → After kind bytes o → MatchOption o (r ≡ false) R → Decides r (Element kind bytes)
  element_by bytes None r f a e = (λ t. absurd (false≢true (sym e ∙ t)), λ h. absurd (a bytes [] h (append-nil bytes)))
  element_by bytes (Some rest) r f a d = Decides-like r (whole bytes rest.now a) (none_left bytes rest.now a) (f rest d)
