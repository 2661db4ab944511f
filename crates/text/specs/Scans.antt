-- What the scans of elements answer.
use Rattle.std.specs.Prelude.{◌≡◌, ℕ, ◌<◌, List, [], ◌∷◌, ◌++◌, length, Some, None, Option, ◌≢◌}
use Rattle.std.specs.Borrow.{Bor}
use Rattle.text.specs.Grammar.{Holds, Element, Led}
use Rattle.text.specs.declared.element.Kind.{Kind}

-- the bytes begin with none that an element may hold
abbrev pub Ended : Kind → List ℕ → Type 0
Ended kind [] = Unit {0}
Ended kind (b ∷ bs) = Holds kind b → ⊥

-- rest is what follows the longest element at the front of the bytes
pub record Follows (kind : Kind) (bytes rest : List ℕ) : Type 0 where
  pub element : List ℕ
  pub valid : Element kind element
  pub spells : element ++ rest ≡ bytes
  pub ended : Ended kind rest

-- what follows the element at the front of the bytes; None where there is no element
abbrev pub After : Kind → List ℕ → Option (Bor (List ℕ)) → Type 0
After kind bytes None = (element rest : List ℕ) → Element kind element → element ++ rest ≢ bytes
After kind bytes (Some rest) = Follows kind bytes rest.now

-- rest follows a separator and an element: the bytes are led exactly where rest is led or empty
pub record Remains (separator : ℕ) (kind : Kind) (bytes rest : List ℕ) : Type 0 where
  pub shorter : length rest < length bytes
  pub last : length rest ≡ 0 → Led separator kind bytes
  pub more : Led separator kind rest → Led separator kind bytes
  pub left : 0 < length rest → Led separator kind bytes → Led separator kind rest

abbrev pub AfterLed : ℕ → Kind → List ℕ → Option (Bor (List ℕ)) → Type 0
AfterLed separator kind bytes None = Led separator kind bytes → ⊥
AfterLed separator kind bytes (Some rest) = Remains separator kind bytes rest.now
