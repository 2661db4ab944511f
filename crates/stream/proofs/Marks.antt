-- From the words of an answer to its row.
use Rattle.std.proofs.Common.{◌≡◌, ℕ, List, [], ◌∷◌, Ok, Err, vec_items, Result, sym, refl, ap, ◌∙◌, subst, inl, inr, arith}
use Rattle.stream.specs.Replies.{mark, parts, spelled, Within, Fits, Reads, Value, Accepted, Denial, Denied}
use Rattle.stream.specs.Spelling.{spaced, Without}
use Rattle.stream.specs.Text.{cut}
use Rattle.stream.specs.declared.answer.Answer.{Answer}
use Rattle.stream.specs.declared.answer.Answer.TheVariants.{Done, Wrote, Routed, Refused, Malformed}
use Rattle.stream.specs.declared.answer.Form.{Form}
use Rattle.stream.specs.declared.fault.Fault.{Fault}
use Rattle.stream.proofs.Cuts.{same_first, Solid, cut_spaced, spaced_cut, without_clear}
use Rattle.stream.proofs.Pairs.{without_hex}
use Rattle.stream.proofs.Numbers.{without_space}

value : (f : Form) (a : Answer) → mark a ≡ 61 → Within a → Fits f a → Value f (parts a)
value f Done m h e = subst (λ (g : Form). Value g (parts Done)) (sym e) refl
value f (Wrote bytes) m h e = subst (λ (g : Form). Value g (parts (Wrote bytes))) (sym e) (vec_items bytes, h.0, h.1, refl)
value f (Routed placed missed) m h e = subst (λ (g : Form). Value g (parts (Routed placed missed))) (sym e) (placed, missed, h.0, h.1, refl)
value f (Refused n) m h e = absurd (omega arith)
value f (Malformed part cause byte) m h e = absurd (omega arith)

denial : (a : Answer) → mark a ≡ 33 → Within a → Denial (parts a)
denial Done m h = absurd (omega arith)
denial (Wrote bytes) m h = absurd (omega arith)
denial (Routed placed missed) m h = absurd (omega arith)
denial (Refused n) m h = inl (n, h.0, h.1, h.2, refl)
denial (Malformed part cause byte) m h = inr (_, refl, (part, cause, byte, h.0, h.1, h.2, refl))

solid_parts : (a : Answer) → Within a → Solid (parts a)
solid_parts Done h = (without_space 0 (omega arith), tt)
solid_parts (Wrote bytes) h = (without_space _ (omega arith), (without_hex (vec_items bytes) h.1, tt))
solid_parts (Routed placed missed) h = (without_space placed (omega arith), (without_space missed (omega arith), tt))
solid_parts (Refused n) h = (without_space n (omega arith), tt)
solid_parts (Malformed part cause byte) h = (without_space 7 (omega arith), (without_space part (omega arith), (without_space cause (omega arith), (without_space byte (omega arith), tt))))

solid_mark : (a : Answer) → Without 32 (mark a ∷ [])
solid_mark Done = without_clear (61 ∷ []) refl
solid_mark (Wrote bytes) = without_clear (61 ∷ []) refl
solid_mark (Routed placed missed) = without_clear (61 ∷ []) refl
solid_mark (Refused n) = without_clear (33 ∷ []) refl
solid_mark (Malformed part cause byte) = without_clear (33 ∷ []) refl

-- the words of a row that spells an answer
words : (row : List ℕ) (m : ℕ) (ws : List (List ℕ)) (a : Answer) → cut row ≡ (m ∷ []) ∷ ws → Within a → row ≡ spelled a → (mark a ≡ m) × (parts a ≡ ws)
words row m ws a e h s =
    let f : (m ∷ []) ∷ ws ≡ (mark a ∷ []) ∷ parts a = sym e ∙ ap cut s ∙ cut_spaced (mark a ∷ []) (parts a) (solid_mark a, solid_parts a h) in
    (cc, cc)

joined : (row : List ℕ) (m : ℕ) (ws : List (List ℕ)) (a : Answer) → cut row ≡ (m ∷ []) ∷ ws → mark a ≡ m → ws ≡ parts a → row ≡ spelled a
joined row m ws a e p q =
    sym (spaced_cut row) ∙ ap spaced (e ∙ ap (λ k. (k ∷ []) ∷ ws) (sym p) ∙ ap (λ (t : List (List ℕ)). (mark a ∷ []) ∷ t) q)

pub by_accepted : (f : Form) (row : List ℕ) (ws : List (List ℕ)) (r : Result Answer Fault) → cut row ≡ (61 ∷ []) ∷ ws → Accepted f ws r → Reads f row r
by_accepted f row ws (Ok a) e h = (joined row 61 ws a e h.0 h.1, h.2, h.3)
by_accepted f row ws (Err x) e h = (
  λ o. (h.0 o, same_first row e),
  λ ne a within fits s.
      let w = words row 61 ws a e within s in
      h.1 ne (subst (Value f) w.1 (value f a w.0 within fits)),
)

pub by_refused : (f : Form) (row : List ℕ) (ws : List (List ℕ)) (r : Result Answer Fault) → cut row ≡ (33 ∷ []) ∷ ws → Denied ws r → Reads f row r
by_refused f row ws (Ok a) e h = (joined row 33 ws a e h.0 h.1, h.2, h.3 f)
by_refused f row ws (Err x) e h = (
  λ o. absurd (h.0 o),
  λ ne a within fits s.
      let w = words row 33 ws a e within s in
      h.1 (subst Denial w.1 (denial a w.0 within)),
)
