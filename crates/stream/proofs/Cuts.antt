-- A text cut at its spaces, and words joined by spaces.
use Rattle.std.proofs.Common.{◌≡◌, ℕ, zero, suc, ◌+◌, ◌<◌, Bool, true, not, ◌&&◌, eqb, List, [], ◌∷◌, ◌++◌, length, get_or, take, drop, sym, refl, ap, ◌∙◌, inl, inr, append-nil, suc-le-suc, arith}
use Rattle.std.proofs.lemmas.List.{get_or-take, length-take-le, drop_more, take-append-drop}
use Rattle.std.proofs.lemmas.Bool.{ne_eqb, eqb-true, eqb-false, cases_Bool, and_parts, not-true}
use Rattle.stream.specs.Spelling.{led, spaced, Without}
use Rattle.stream.specs.Text.{first, others, cut}

without_tail : (b x : ℕ) (xs : List ℕ) → Without b (x ∷ xs) → Without b xs
without_tail b x xs h i l = h (suc i) (suc-le-suc l)

pub first_word : (w t : List ℕ) → Without 32 w → first (w ++ t) ≡ w ++ first t
first_word [] t h = refl
first_word (c ∷ w) t h =
    rw (ne_eqb c 32 (h 0 (omega arith))) (ap (λ (x : List ℕ). c ∷ x) (first_word w t (without_tail 32 c w h)))

pub other_words : (w t : List ℕ) → Without 32 w → others (w ++ t) ≡ others t
other_words [] t h = refl
other_words (c ∷ w) t h = rw (ne_eqb c 32 (h 0 (omega arith))) (other_words w t (without_tail 32 c w h))

-- a word, a space and the rest
pub cut_word : (w t : List ℕ) → Without 32 w → cut (w ++ (32 ∷ t)) ≡ w ∷ cut t
cut_word w t h = rw (first_word w (32 ∷ t) h, other_words w (32 ∷ t) h, append-nil)

-- one word alone
pub cut_last : (w : List ℕ) → Without 32 w → cut w ≡ w ∷ []
cut_last w h =
    let p : first w ≡ w = ap first (sym (append-nil w)) ∙ first_word w [] h ∙ append-nil w in
    let q : others w ≡ [] = ap others (sym (append-nil w)) ∙ other_words w [] h in
    rw (p, q)

-- the words of a text, joined again
pub spaced_cut : (text : List ℕ) → spaced (cut text) ≡ text
spaced_cut [] = refl
spaced_cut (c ∷ cs) =
    elim (cases_Bool (eqb c 32)) [
      | inl e ↦ rw (e, eqb-true c 32 e) (ap (λ (x : List ℕ). 32 ∷ x) (spaced_cut cs))
      | inr e ↦ rw e (ap (λ (x : List ℕ). c ∷ x) (spaced_cut cs))
    ]

-- no space stands in any of the words
abbrev pub Solid : List (List ℕ) → Type 0
Solid [] = Unit {0}
Solid (w ∷ ws) = Without 32 w × Solid ws

cut_led : (ws : List (List ℕ)) → Solid ws → (first (led ws) ≡ []) × (others (led ws) ≡ ws)
cut_led [] h = (refl, refl)
cut_led (w ∷ ws) h =
    let p = cut_led ws h.1 in
    (refl, rw (first_word w (led ws) h.0, other_words w (led ws) h.0, p.0, p.1, append-nil))

-- words without spaces, joined and cut again
pub cut_spaced : (w : List ℕ) (ws : List (List ℕ)) → Solid (w ∷ ws) → cut (spaced (w ∷ ws)) ≡ w ∷ ws
cut_spaced w ws h =
    let p = cut_led ws h.1 in
    rw (first_word w (led ws) h.0, other_words w (led ws) h.0, p.0, p.1, append-nil)

-- of letters that are known, by computation
abbrev pub clear : List ℕ → Bool
clear [] = true
clear (x ∷ xs) = not (eqb x 32) && clear xs

pub without_clear : (xs : List ℕ) → clear xs ≡ true → Without 32 xs
without_clear [] h i l e = omega arith
without_clear (x ∷ xs) h zero l e = eqb-false x 32 (not-true (eqb x 32) (and_parts (not (eqb x 32)) (clear xs) h).0) e
without_clear (x ∷ xs) h (suc i) l e = without_clear xs (and_parts (not (eqb x 32)) (clear xs) h).1 i (omega arith) e

-- as `find` tells where the first space is
pub cut_at : (text : List ℕ) (i : ℕ) → i < length text → ((k : ℕ) → k < i → get_or text k 0 ≡ 32 → ⊥) → get_or text i 0 ≡ 32 → cut text ≡ take i text ∷ cut (drop (i + 1) text)
cut_at text i l before at =
    let e : text ≡ take i text ++ (32 ∷ drop (i + 1) text) =
    sym (take-append-drop i text) ∙ ap (λ (t : List ℕ). take i text ++ t) (drop_more text i 0 l ∙ ap (λ x. x ∷ drop (i + 1) text) at) in
    ap cut e ∙ cut_word (take i text) (drop (i + 1) text)
    (λ k h z. before k (omega (arith, length-take-le i text (omega arith))) (sym (get_or-take i text k 0 (omega (arith, length-take-le i text (omega arith)))) ∙ z))

pub same_first : (text : List ℕ) {w : List ℕ} {ws : List (List ℕ)} → cut text ≡ w ∷ ws → first text ≡ w
same_first text e = cc
