-- What a line is that is read as AUTH EXTERNAL or as BEGIN, and which line is unknown.
use Rattle.std.proofs.Common.{◌≡◌, ℕ, ◌+◌, Bool, true, false, cond, ◌&&◌, ltb, leb, eqb, List, ◌∷◌, ◌++◌, length, take, drop, Some, None, codes, Option, sym, refl, ap, ◌∙◌, subst}
use Rattle.std.specs.Str.{bytes_eq}
use Rattle.std.specs.List.{position_or_len}
use Rattle.std.specs.Option.{option_map}
use Rattle.std.proofs.lemmas.Slice.Eq.{bytes_eq-Decides}
use Rattle.std.proofs.lemmas.Bool.{cond-false, eqb-true, ltb-true, ltb-false}
use Rattle.std.proofs.lemmas.List.{take_all}
use Rattle.std.proofs.lemmas.List.Sums.{split_at_first, passes_at_first}
use Rattle.handshake.proofs.Credentials.{differs}
use Rattle.handshake.specs.Lines.{Command, external, other_auth, error, begin, cancel, unknown, printable, word, text, mechanism, authority, alone, command, read}

-- a line is its word, or its word, a space and its text
abbrev parts : List ℕ → Option (List ℕ) → List ℕ
parts w None = w
parts w (Some t) = w ++ (32 ∷ t)

line_parts : (bs : List ℕ) → bs ≡ parts (word bs) (text bs)
line_parts bs = by_space (ltb at (length bs)) refl
  where
    at : ℕ
    at = position_or_len (λ b. eqb b 32) bs

    by_space : (t : Bool) → ltb at (length bs) ≡ t → bs ≡ parts (take at bs) (option_map (λ i. drop (i + 1) bs) (cond t (Some at) None))
    by_space true e =
        let here = ltb-true _ _ e in
        let space = eqb-true _ 32 (passes_at_first (λ b. eqb b 32) bs 0 here) in
        split_at_first (λ b. eqb b 32) bs 0 here ∙ ap (λ (n : ℕ). take at bs ++ (n ∷ drop (at + 1) bs)) space
    by_space false e = sym (take_all at bs (ltb-false _ _ e))

same : (xs ys : List ℕ) → bytes_eq xs ys ≡ true → xs ≡ ys
same xs ys e = (bytes_eq-Decides xs ys).0 e

pub either : {X : Type 0} (P : X → Type 0) (b : Bool) (x y : X) → (b ≡ true → P x) → (b ≡ false → P y) → P (cond b x y)
either P true x y h k = h refl
either P false x y h k = k refl

-- what a line is, by what it says; where that is open, nothing
abbrev Says : List ℕ → Command → Type 0
Says bs (external x) = bs ≡ codes "AUTH EXTERNAL " ++ x
Says bs other_auth = Unit {0}
Says bs error = Unit {0}
Says bs begin = bs ≡ codes "BEGIN"
Says bs cancel = Unit {0}
Says bs unknown = Unit {0}

module _ (bs : List ℕ) where
  mechanism_says : (w : List ℕ) (t : Option (List ℕ)) → bs ≡ codes "AUTH " ++ parts w t → Says bs (mechanism w t)
  mechanism_says w None whole = tt
  mechanism_says w (Some x) whole = either (Says bs) (bytes_eq w (codes "EXTERNAL")) (external x) other_auth
      (λ e. whole ∙ ap (λ (v : List ℕ). codes "AUTH " ++ (v ++ (32 ∷ x))) (same w _ e))
      (λ _. tt)

  authority_says : (t : Option (List ℕ)) → bs ≡ parts (codes "AUTH") t → Says bs (authority t)
  authority_says None whole = tt
  authority_says (Some rest) whole = mechanism_says (word rest) (text rest) (whole ∙ ap (λ (r : List ℕ). codes "AUTH " ++ r) (line_parts rest))

  module _ (w : List ℕ) where
    alone_says : (t : Option (List ℕ)) → bs ≡ parts w t → Says bs (alone w t)
    alone_says None whole = either (Says bs) (bytes_eq w (codes "BEGIN")) begin _
        (λ e. whole ∙ same w _ e)
        (λ _. either (Says bs) (bytes_eq w (codes "CANCEL")) cancel unknown (λ _. tt) (λ _. tt))
    alone_says (Some t) whole = tt

    command_says : (t : Option (List ℕ)) → bs ≡ parts w t → Says bs (command w t)
    command_says t whole = either (Says bs) (bytes_eq w (codes "AUTH")) (authority t) _
        (λ e. authority_says t (whole ∙ ap (λ (v : List ℕ). parts v t) (same w _ e)))
        (λ _. either (Says bs) (bytes_eq w (codes "ERROR")) error _ (λ _. tt) (λ _. alone_says t whole))

  read_says : Says bs (read bs)
  read_says = either (Says bs) (leb (length bs) 256 && printable bs) _ unknown (λ _. command_says (word bs) (text bs) (line_parts bs)) (λ _. tt)

  pub read_external : (x : List ℕ) → read bs ≡ external x → bs ≡ codes "AUTH EXTERNAL " ++ x
  read_external x e = subst (Says bs) e read_says

  pub read_begin : read bs ≡ begin → bs ≡ codes "BEGIN"
  read_begin e = subst (Says bs) e read_says

alone_unknown : (w : List ℕ) (t : Option (List ℕ)) → (t ≡ None → w ≡ codes "BEGIN" → ⊥) → (t ≡ None → w ≡ codes "CANCEL" → ⊥) → unknown ≡ alone w t
alone_unknown w None no_begin no_cancel = sym (
    cond-false _ _ _ (differs w (codes "BEGIN") (no_begin refl)) ∙ cond-false _ _ _ (differs w (codes "CANCEL") (no_cancel refl))
    )
alone_unknown w (Some t) no_begin no_cancel = refl

-- a line that is none of the others is unknown
pub unknown_line : (bs : List ℕ) → (word bs ≡ codes "AUTH" → ⊥) → (word bs ≡ codes "ERROR" → ⊥) → (text bs ≡ None → word bs ≡ codes "BEGIN" → ⊥) → (text bs ≡ None → word bs ≡ codes "CANCEL" → ⊥) → unknown ≡ read bs
unknown_line bs no_auth no_error no_begin no_cancel = either (λ c. unknown ≡ c) (leb (length bs) 256 && printable bs) _ unknown
    (λ _. alone_unknown (word bs) (text bs) no_begin no_cancel ∙ sym (
    cond-false _ _ _ (differs (word bs) (codes "AUTH") no_auth) ∙ cond-false _ _ _ (differs (word bs) (codes "ERROR") no_error)
    ))
    (λ _. refl)
