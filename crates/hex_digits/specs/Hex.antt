-- Bytes in hex.
use Rattle.std.specs.Prelude.{cond, List, [], ◌∷◌, ℕ, ◌+◌, ◌-◌, ◌/◌, ◌%◌, ltb}

-- the lower-case hex digit of a number below 16: '0' is 48, and 'a' is 97
abbrev pub digit : ℕ → ℕ
digit n = cond (ltb n 10) (48 + n) (97 + (n - 10))

-- each byte as two hex digits, the high one first
abbrev pub pairs : List ℕ → List ℕ
pairs [] = []
pairs (b ∷ bs) = digit (b / 16) ∷ digit (b % 16) ∷ pairs bs
