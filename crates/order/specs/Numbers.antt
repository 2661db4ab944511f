-- The number that bytes stand for, the least significant first, and the bytes of a number.
use Rattle.std.specs.Prelude.{◌≡◌, ℕ, zero, suc, ◌+◌, ◌*◌, ◌/◌, ◌%◌, ◌^◌, ◌<◌, List, [], ◌∷◌, reverse, length}
use Rattle.std.specs.List.{AllByRecursion}

abbrev pub Byte : ℕ → Type 0
Byte b = b < 256

abbrev pub number : List ℕ → ℕ
number [] = 0
number (b ∷ bs) = b + 256 * number bs

-- so many bytes of a number
abbrev pub bytes_of : ℕ → ℕ → List ℕ
bytes_of zero x = []
bytes_of (suc n) x = x % 256 ∷ bytes_of n (x / 256)

-- the least significant byte lies first
abbrev pub as_they_lie : List ℕ → List ℕ
as_they_lie xs = xs

-- An order keeps numbers: what is written reads back, and what is read and written again is the same, at every width.
pub record Keeps (ordered : List ℕ → List ℕ) : Type 0 where
  pub reads_back : (n x : ℕ) → x < 256 ^ n → number (ordered (ordered (bytes_of n x))) ≡ x
  pub writes_back : (xs : List ℕ) → AllByRecursion Byte xs → ordered (bytes_of (length xs) (number (ordered xs))) ≡ xs

-- The bytes of a number in one order are those in the other, reversed, and bytes stand for the number of the reversed ones.
pub record Mirrors (first second : List ℕ → List ℕ) : Type 0 where
  pub writes : (n x : ℕ) → first (bytes_of n x) ≡ reverse (second (bytes_of n x))
  pub reads : (xs : List ℕ) → number (first xs) ≡ number (second (reverse xs))
