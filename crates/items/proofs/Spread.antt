-- Some bytes of an area, one by one.
use Rattle.std.proofs.Common.{◌≡◌, ℕ, zero, suc, ◌+◌, ◌<◌, ◌≤◌, List, ◌∷◌, length, get_or, take, drop, refl, ap, ◌∙◌, arith, length-drop, length-take, get_or-drop, get_or-take}
use Rattle.order.specs.Spreads.{spread, spread_of}

spread_same : (n : ℕ) (f g : ℕ → ℕ) → ((k : ℕ) → k < n → f k ≡ g k) → spread n f ≡ spread n g
spread_same zero f g h = refl
spread_same (suc n) f g h =
    ap (λ y. y ∷ spread n (λ k. f (suc k))) (h 0 (omega arith))
    ∙ ap (λ ys. g 0 ∷ ys) (spread_same n (λ k. f (suc k)) (λ k. g (suc k)) (λ k b. h (suc k) (omega arith)))

pub taken : (n i : ℕ) (xs : List ℕ) → i + n ≤ length xs → take n (drop i xs) ≡ spread n (λ k. get_or xs (i + k) 0)
taken n i xs h =
    spread_of n (take n (drop i xs)) (simp (length-take, length-drop) (omega arith))
    ∙ spread_same n (λ k. get_or (take n (drop i xs)) k 0) (λ k. get_or xs (i + k) 0)
    (λ k b. get_or-take n (drop i xs) k 0 b ∙ get_or-drop i xs k 0)
