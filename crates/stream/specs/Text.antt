-- A row without its comment, and its words.
use Rattle.std.specs.Prelude.{◌≡◌, ℕ, ◌-◌, ◌<◌, ◌≤◌, cond, List, [], ◌∷◌, length, take, Some, None, Option, ◌==◌, ◌≢◌, slice_index}
use Rattle.std.specs.Borrow.{Bor}
use Rattle.stream.specs.declared.words.Words.{Words}

-- text is the row up to its comment, without the spaces before that
pub record Content (whole text : List ℕ) : Type 0 where
  -- where the comment begins, or the row ends
  pub mark : ℕ
  pub within : mark ≤ length whole
  pub before : (k : ℕ) → k < mark → slice_index whole k ≢ 35
  pub comment : mark < length whole → slice_index whole mark ≡ 35
  pub front : text ≡ take (length text) whole
  pub fits : length text ≤ mark
  pub spaces : (k : ℕ) → length text ≤ k → k < mark → slice_index whole k ≡ 32
  pub trimmed : 0 < length text → slice_index whole (length text - 1) ≢ 32

-- the bytes before the first space
abbrev pub first : List ℕ → List ℕ
first [] = []
first (c ∷ cs) = cond (c == 32) [] (c ∷ first cs)

-- the words after the first space
abbrev pub others : List ℕ → List (List ℕ)
others [] = []
others (c ∷ cs) = cond (c == 32) (first cs ∷ others cs) (others cs)

-- a text cut at each space
abbrev pub cut : List ℕ → List (List ℕ)
cut text = first text ∷ others text

abbrev pub cut_of : Option (Bor (List ℕ)) → List (List ℕ)
cut_of None = []
cut_of (Some text) = cut text.now

-- the words that are still to be read
abbrev pub left : Words → List (List ℕ)
left w = cut_of w.rest
