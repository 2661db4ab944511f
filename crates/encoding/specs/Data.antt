-- Values apart from how they lie in bytes.
use Rattle.std.specs.Prelude.{ℕ, ◌+◌, ◌^◌, ◌<◌, ◌≤◌, Bool, List, []}
use Rattle.text.specs.Texts as texts
use Rattle.text.specs.Grammar as names
use Rattle.signature.specs.declared.codes.Basic.{Basic}
use Rattle.signature.specs.declared.codes.Basic.TheVariants as basics
use Rattle.signature.specs.Trees.{Tree, basic, variant, array, struct, Element, Trees, none, more, spell, Single, Signature}
use Rattle.values.specs.Values.{lies_as}

-- a number of so many bytes
pub record Number (size : ℕ) : Type 0 where
  pub value : ℕ
  pub fits : value < 256 ^ size

-- bytes that are a text, a path or a signature
pub record Written (Valid : List ℕ → Type 0) : Type 0 where
  pub bytes : List ℕ
  pub valid : Valid bytes

-- what a value of a basic type is
abbrev pub Content : Basic → Type 0
Content basics.Byte = Number 1
Content basics.Boolean = Bool
Content basics.Int16 = Number 2
Content basics.Uint16 = Number 2
Content basics.Int32 = Number 4
Content basics.Uint32 = Number 4
Content basics.Int64 = Number 8
Content basics.Uint64 = Number 8
Content basics.Double = Number 8
Content basics.Text = Written texts.Text
Content basics.Path = Written names.Path
Content basics.Signature = Written Signature

mutual
  -- a value of each type
  pub data Datum : Tree → Type 0 where
    plain : {b : Basic} → Content b → Datum (basic b)
    tuple : {t : Tree} {ts : Trees} → Data (more t ts) → Datum (struct t ts)
    list : {e : Element} → Items e → Datum (array e)
    -- any value, with its type
    tagged : {t : Tree} → Single (spell t []) → Datum t → Datum variant

  -- values of types, one for each
  pub data Data : Trees → Type 0 where
    nil : Data none
    cons : {t : Tree} {ts : Trees} → Datum t → Data ts → Data (more t ts)

  -- the elements of an array
  pub data Items : Element → Type 0 where
    empty : {e : Element} → Items e
    push : {e : Element} → Datum (lies_as e) → Items e → Items e

-- with so many arrays, structs, dict entries and variants around it, no value in it has more than 64 around it
abbrev mutual
  pub Shallow : {t : Tree} → ℕ → Datum t → Type 0
  Shallow around (plain c) = around ≤ 64
  Shallow around (tuple ds) = (around ≤ 64) × ShallowAll (around + 1) ds
  Shallow around (list xs) = (around ≤ 64) × ShallowItems (around + 1) xs
  Shallow around (tagged one d) = (around ≤ 64) × Shallow (around + 1) d

  pub ShallowAll : {ts : Trees} → ℕ → Data ts → Type 0
  ShallowAll around nil = Unit {0}
  ShallowAll around (cons d ds) = Shallow around d × ShallowAll around ds

  pub ShallowItems : {e : Element} → ℕ → Items e → Type 0
  ShallowItems around empty = Unit {0}
  ShallowItems around (push d xs) = Shallow around d × ShallowItems around xs
