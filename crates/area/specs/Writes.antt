-- Bytes written into an area.
use Rattle.std.specs.Prelude.{ℕ, ◌+◌, Bool, List, ◌++◌, length, take, drop, nat_le}

-- the bytes end within the area
abbrev pub fits : List ℕ → ℕ → List ℕ → Bool
fits area at bytes = nat_le (at + length bytes) (length area)

-- the area with the bytes at a place; all else is as it was
abbrev pub written : List ℕ → ℕ → List ℕ → List ℕ
written area at bytes = take at area ++ (bytes ++ drop (at + length bytes) area)
