-- The examples of encodings.
use Rattle.std.proofs.Common.{ℕ, List, [], ◌∷◌, ◌++◌, length, refl, ap₂}
use Rattle.order.specs.Numbers.{bytes_of}
use Rattle.encoding.specs.Examples.{Examples}

pub samples : Examples
samples = record {
  numbers = λ y u e f. ap₂ (λ (a b : ℕ). bytes_of 1 a ++ (0 ∷ 0 ∷ 0 ∷ bytes_of 4 b)) e f;
  no_elements = refl;
  field = λ y w one e f. ap₂ (λ (a : ℕ) (xs : List ℕ). 0 ∷ 0 ∷ (bytes_of 1 a ++ ((1 ∷ 111 ∷ 0 ∷ (bytes_of 4 (length xs) ++ (xs ++ 0 ∷ []))) ++ []))) e f;
}
