-- How long bytes in hex are, and how they are joined.
use mathlib.Core.Path.{◌≡◌, refl, ap}
use mathlib.Core.List.{List, [], ◌∷◌, ◌++◌}
use Prim.Native.Nat.{ℕ, ◌+◌, ◌*◌, ◌/◌, ◌%◌, ◌<◌}
use native.Mathlib.Omega.{arith}
use borrow.Author.Rules.{rules}
use lib.ListN.{length}
use Rattle.hex_digits.specs.Hex.{digit, pairs}

pub length_pairs : (bs : List ℕ) → length (pairs bs) ≡ 2 * length bs
length_pairs [] = refl
length_pairs (b ∷ bs) = let e = length_pairs bs in omega arith

pub pairs_append : (xs ys : List ℕ) → pairs (xs ++ ys) ≡ pairs xs ++ pairs ys
pairs_append [] ys = refl
pairs_append (x ∷ xs) ys = ap (λ (r : List ℕ). digit (x / 16) ∷ digit (x % 16) ∷ r) (pairs_append xs ys)

-- a decimal digit is its own hex digit
pub digit_below : (d : ℕ) → d < 10 → digit d ≡ 48 + d
digit_below d h = search rules
