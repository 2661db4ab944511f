-- Texts that are signatures, and some that are none.
use Rattle.std.specs.Prelude.{ℕ, List, ◌++◌, replicate, codes}
use Rattle.signature.specs.Trees.{Signature}

-- so many times `a`, and then `y`
abbrev pub nested : ℕ → List ℕ
nested n = replicate n 97 ++ codes "y"

pub record Examples : Type 0 where
  pub dictionary : Signature (codes "a{sv}")
  pub key_not_basic : Signature (codes "a{vs}") → ⊥
  pub empty_struct : Signature (codes "()") → ⊥
  pub array_of_nothing : Signature (codes "a") → ⊥
  pub deepest : Signature (nested 32)
  pub too_deep : Signature (nested 33) → ⊥
