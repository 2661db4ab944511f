-- Text, the value of an `s`.
use Rattle.std.specs.Prelude.{ℕ, List, IsUtf8}
use Rattle.std.specs.List.{ContainsAt as Has}

pub record Text (bytes : List ℕ) : Type 0 where
  pub utf8 : IsUtf8 bytes
  pub without_zero : Has bytes 0 → ⊥
