-- Places of a ring, and a message written into a slot.
use Rattle.std.proofs.Common.{◌≡◌, ℕ, ◌+◌, ◌-◌, ◌*◌, ◌<◌, ◌≤◌, List, ◌++◌, length, take, drop, sym, refl, ap, ◌∙◌, ⊎_elim, arith}
use borrow.Rule.Slice.PartMut.{put_mid}
use Rattle.std.proofs.lemmas.List.{length-append, length-take, length-drop, drop-drop}
use Rattle.std.proofs.lemmas.Slice.{between_is, take-put_mid_below, drop-put_mid, between-put_mid}
use Rattle.std.proofs.lemmas.Bool.{cases_lt}
use Rattle.std.proofs.lemmas.Bool.Decides.{nat_tests}
use Rattle.area.specs.Writes.{written}
use Rattle.shelf.specs.Rows.{place}

-- two places of a ring differ
pub place_ne : (limit head j k : ℕ) → head < limit → j < k → k < limit → place limit head j ≡ place limit head k → ⊥
place_ne limit head j k a b d e = grind (arith, nat_tests)

pub place_step : (limit head k : ℕ) → head < limit → k < limit → place limit (place limit head 1) k ≡ place limit head (k + 1)
place_step limit head k a b = grind (arith, nat_tests)

-- what a slot holds after a message was written to one
module _ (area m : List ℕ) (s : ℕ) (room : 1024 * s + 1024 ≤ length area) (short : length m ≤ 1024) where
  as_part : written area (1024 * s) m ≡ put_mid (1024 * s) (length m) area m
  as_part = ap (λ (xs : List ℕ). take (1024 * s) area ++ (m ++ xs)) (sym (drop-drop (length m) (1024 * s) area))

  pub written_length : length (written area (1024 * s) m) ≡ length area
  written_length = simp (length-append, length-take, length-drop) (omega arith)

  pub written_here : take (length m) (drop (1024 * s) (written area (1024 * s) m)) ≡ m
  written_here =
      let e : (1024 * s + length m) - 1024 * s ≡ length m = omega arith in
      ap (λ (xs : List ℕ). take (length m) (drop (1024 * s) xs)) as_part
      ∙ ap (λ (n : ℕ). take n (drop (1024 * s) (put_mid (1024 * s) (length m) area m))) (sym e)
      ∙ between-put_mid (1024 * s) (length m) area m (1024 * s + length m) (omega arith) (omega arith)

  pub written_other : (t n : ℕ) → (t ≡ s → ⊥) → n ≤ 1024 → take n (drop (1024 * t) (written area (1024 * s) m)) ≡ take n (drop (1024 * t) area)
  written_other t n ne le =
      ap (λ (xs : List ℕ). take n (drop (1024 * t) xs)) as_part
      ∙ ⊎_elim
      (λ (lt : t < s).
      let e : (1024 * t + n) - 1024 * t ≡ n = omega arith in
      ap (λ (j : ℕ). take j (drop (1024 * t) (put_mid (1024 * s) (length m) area m))) (sym e)
      ∙ between_is (put_mid (1024 * s) (length m) area m) (1024 * t) (1024 * t + n)
      ∙ ap (drop (1024 * t)) (take-put_mid_below (1024 * s) (length m) area m (1024 * t + n) (omega arith) (omega arith))
      ∙ sym (between_is area (1024 * t) (1024 * t + n))
      ∙ ap (λ (j : ℕ). take j (drop (1024 * t) area)) e)
      (λ ge. ap (take n) (drop-put_mid (1024 * s) (length m) area m (1024 * t) (omega arith) (omega arith) refl))
      (cases_lt t s)
