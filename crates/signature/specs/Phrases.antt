-- What stands at the front of bytes, within so many arrays and structs, and what follows it.
use Rattle.std.specs.Prelude.{◌≡◌, ℕ, ◌≤◌, List, [], ◌∷◌}
use Rattle.signature.specs.declared.codes.Basic.{Basic}
use Rattle.signature.specs.Codes.{code}
use Rattle.signature.specs.Trees.{Tree, Element, Trees, spell, spell_element, spell_all, arrays, element_arrays, all_arrays, structs, element_structs, all_structs}

-- one complete type
pub record TypeAt (bytes : List ℕ) (a d : ℕ) (after : List ℕ) : Type 0 where
  pub type : Tree
  pub spells : spell type after ≡ bytes
  pub few_arrays : arrays type ≤ a
  pub few_structs : structs type ≤ d

-- a complete type or a dict entry
pub record ElementAt (bytes : List ℕ) (a d : ℕ) (after : List ℕ) : Type 0 where
  pub element : Element
  pub spells : spell_element element after ≡ bytes
  pub few_arrays : element_arrays element ≤ a
  pub few_structs : element_structs element ≤ d

-- a basic key, a complete type and `}`
pub record EntryAt (bytes : List ℕ) (a d : ℕ) (after : List ℕ) : Type 0 where
  pub key : Basic
  pub type : Tree
  pub spells : code key ∷ spell type (125 ∷ after) ≡ bytes
  pub few_arrays : arrays type ≤ a
  pub few_structs : structs type ≤ d

-- one or more complete types and `)`
pub record MembersAt (bytes : List ℕ) (a d : ℕ) (after : List ℕ) : Type 0 where
  pub type : Tree
  pub types : Trees
  pub spells : spell type (spell_all types (41 ∷ after)) ≡ bytes
  pub few_arrays : (arrays type ≤ a) × (all_arrays types ≤ a)
  pub few_structs : (structs type ≤ d) × (all_structs types ≤ d)

-- nothing but complete types
pub record Types (bytes : List ℕ) : Type 0 where
  pub types : Trees
  pub spells : spell_all types [] ≡ bytes
  pub few_arrays : all_arrays types ≤ 32
  pub few_structs : all_structs types ≤ 32
