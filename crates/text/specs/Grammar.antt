-- Paths and names: what an element may hold, and how elements are joined.
-- The separators are `.`, 46, and `/`, 47.
use Rattle.std.specs.Prelude.{◌≡◌, ℕ, ◌≤◌, ◌⊎◌, List, [], ◌∷◌, ◌++◌, length, Some, None, codes, Option}
use Rattle.std.specs.Char.{IsAsciiDigit, IsAsciiAlphabetic}
use Rattle.std.specs.List.{AllByRecursion}
use Rattle.text.specs.declared.BusName.{BusName}
use Rattle.text.specs.declared.BusName.TheVariants as bus
use Rattle.text.specs.declared.element.Kind.{Kind}
use Rattle.text.specs.declared.element.Kind.TheVariants.{Path as OfPath, Name as OfName, WellKnown as OfWellKnown, Unique as OfUnique}

-- the elements of bus names may hold a `-`
abbrev pub Hyphened : Kind → Type 0
Hyphened OfPath = ⊥
Hyphened OfName = ⊥
Hyphened OfWellKnown = Unit {0}
Hyphened OfUnique = Unit {0}

-- the elements of paths and of unique names may begin with a digit
abbrev pub DigitFirst : Kind → Type 0
DigitFirst OfPath = Unit {0}
DigitFirst OfName = ⊥
DigitFirst OfWellKnown = ⊥
DigitFirst OfUnique = Unit {0}

-- a byte that an element may hold: a letter, a digit, `_`, 95, or `-`, 45
abbrev pub Holds : Kind → ℕ → Type 0
Holds kind b = IsAsciiAlphabetic b ⊎ (IsAsciiDigit b ⊎ ((b ≡ 95) ⊎ ((b ≡ 45) × Hyphened kind)))

-- a byte that an element may begin with
abbrev pub Begins : Kind → ℕ → Type 0
Begins kind b = Holds kind b × (IsAsciiDigit b → DigitFirst kind)

-- an element is one or more bytes, the first of which may begin it
abbrev pub Element : Kind → List ℕ → Type 0
Element kind [] = ⊥
Element kind (b ∷ bs) = Begins kind b × AllByRecursion (Holds kind) bs

-- the separator before each element
abbrev pub led : ℕ → List (List ℕ) → List ℕ
led separator [] = []
led separator (e ∷ es) = separator ∷ (e ++ led separator es)

-- the separator between two elements
abbrev pub joined : ℕ → List (List ℕ) → List ℕ
joined separator [] = []
joined separator (e ∷ es) = e ++ led separator es

-- one or more elements, the separator before each
pub record Led (separator : ℕ) (kind : Kind) (bytes : List ℕ) : Type 0 where
  pub elements : List (List ℕ)
  pub some : 1 ≤ length elements
  pub valid : AllByRecursion (Element kind) elements
  pub spells : led separator elements ≡ bytes

-- two or more elements, a `.` between them
pub record Dotted (kind : Kind) (bytes : List ℕ) : Type 0 where
  pub elements : List (List ℕ)
  pub some : 2 ≤ length elements
  pub valid : AllByRecursion (Element kind) elements
  pub spells : joined 46 elements ≡ bytes

-- an object path: `/` alone, or `/` before each of one or more elements
abbrev pub Path : List ℕ → Type 0
Path bytes = (bytes ≡ codes "/") ⊎ Led 47 OfPath bytes

-- no longer than a name may be
abbrev pub Short : List ℕ → Type 0
Short bytes = length bytes ≤ 255

pub record Member (bytes : List ℕ) : Type 0 where
  pub short : Short bytes
  pub element : Element OfName bytes

-- an interface or error name
pub record Interface (bytes : List ℕ) : Type 0 where
  pub short : Short bytes
  pub dotted : Dotted OfName bytes

pub record IsWellKnown (bytes : List ℕ) : Type 0 where
  pub short : Short bytes
  pub dotted : Dotted OfWellKnown bytes

-- `:`, 58, and a dotted name
pub record Unique (bytes : List ℕ) : Type 0 where
  pub short : Short bytes
  pub name : List ℕ
  pub dotted : Dotted OfUnique name
  pub spells : 58 ∷ name ≡ bytes

-- a bus name of a kind
abbrev pub Named : BusName → List ℕ → Type 0
Named bus.WellKnown bytes = IsWellKnown bytes
Named bus.Unique bytes = Unique bytes

abbrev pub IsBusName : List ℕ → Type 0
IsBusName bytes = (kind : BusName) × Named kind bytes

-- the one kind of bus name that the bytes are; None where they are no bus name
abbrev pub Told : List ℕ → Option BusName → Type 0
Told bytes None = IsBusName bytes → ⊥
Told bytes (Some kind) = Named kind bytes × ((other : BusName) → Named other bytes → other ≡ kind)
