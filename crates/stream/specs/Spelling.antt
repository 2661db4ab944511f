-- How numbers, bytes and words are written in a row.
use Rattle.std.specs.Prelude.{ℕ, ◌<◌, List, [], ◌∷◌, ◌++◌, length, ◌≢◌, slice_index}
use Rattle.hex_digits.specs.Hex.{pairs}

-- bytes as a word: '-' for none
abbrev pub hex : List ℕ → List ℕ
hex [] = 45 ∷ []
hex (b ∷ bs) = pairs (b ∷ bs)

-- each word after a space
abbrev pub led : List (List ℕ) → List ℕ
led [] = []
led (w ∷ ws) = 32 ∷ (w ++ led ws)

-- words with one space between two of them
abbrev pub spaced : List (List ℕ) → List ℕ
spaced [] = []
spaced (w ∷ ws) = w ++ led ws

-- each number is a byte
abbrev pub Bytes : List ℕ → Type 0
Bytes xs = (i : ℕ) → i < length xs → slice_index xs i < 256

-- no b among xs
abbrev pub Without : ℕ → List ℕ → Type 0
Without b xs = (i : ℕ) → i < length xs → slice_index xs i ≢ b
