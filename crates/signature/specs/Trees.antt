-- The types that a signature spells: trees, how each is spelled, and how deep it goes.
use Rattle.std.specs.Prelude.{◌≡◌, ℕ, ◌+◌, ◌≤◌, max, List, [], ◌∷◌, length, drop}
use Rattle.signature.specs.declared.codes.Basic.{Basic}
use Rattle.signature.specs.declared.codes.Head.{Head}
use Rattle.signature.specs.declared.codes.Head.TheVariants as head
use Rattle.signature.specs.Codes.{code}

mutual
  -- a complete type; a struct has one member or more
  pub data Tree : Type 0 where
    basic : Basic → Tree
    variant : Tree
    array : Element → Tree
    struct : Tree → Trees → Tree

  -- what an array is of: a complete type, or a dict entry of a key and a value
  pub data Element : Type 0 where
    single : Tree → Element
    entry : Basic → Tree → Element

  -- complete types, one after the other
  pub data Trees : Type 0 where
    none : Trees
    more : Tree → Trees → Trees

-- the codes of a type, and then `rest`: 118 is v, 97 a, 40 and 41 the brackets of a struct, 123 and 125 those of a dict entry
abbrev mutual
  pub spell : Tree → List ℕ → List ℕ
  spell (basic b) rest = code b ∷ rest
  spell variant rest = 118 ∷ rest
  spell (array e) rest = 97 ∷ spell_element e rest
  spell (struct t ts) rest = 40 ∷ spell t (spell_all ts (41 ∷ rest))

  pub spell_element : Element → List ℕ → List ℕ
  spell_element (single t) rest = spell t rest
  spell_element (entry k t) rest = 123 ∷ code k ∷ spell t (125 ∷ rest)

  pub spell_all : Trees → List ℕ → List ℕ
  spell_all none rest = rest
  spell_all (more t ts) rest = spell t (spell_all ts rest)

-- how many arrays stand around one another at most
abbrev mutual
  pub arrays : Tree → ℕ
  arrays (basic b) = 0
  arrays variant = 0
  arrays (array e) = element_arrays e + 1
  arrays (struct t ts) = max (arrays t) (all_arrays ts)

  pub element_arrays : Element → ℕ
  element_arrays (single t) = arrays t
  element_arrays (entry k t) = arrays t

  pub all_arrays : Trees → ℕ
  all_arrays none = 0
  all_arrays (more t ts) = max (arrays t) (all_arrays ts)

-- how many structs and dict entries do
abbrev mutual
  pub structs : Tree → ℕ
  structs (basic b) = 0
  structs variant = 0
  structs (array e) = element_structs e
  structs (struct t ts) = max (structs t) (all_structs ts) + 1

  pub element_structs : Element → ℕ
  element_structs (single t) = structs t
  element_structs (entry k t) = structs t + 1

  pub all_structs : Trees → ℕ
  all_structs none = 0
  all_structs (more t ts) = max (structs t) (all_structs ts)

-- a signature: at most 255 bytes that spell complete types, none deeper than 32 arrays or 32 structs
pub record Signature (bytes : List ℕ) : Type 0 where
  pub types : Trees
  pub spells : spell_all types [] ≡ bytes
  pub short : length bytes ≤ 255
  pub few_arrays : all_arrays types ≤ 32
  pub few_structs : all_structs types ≤ 32

-- a signature of exactly one complete type
pub record Single (bytes : List ℕ) : Type 0 where
  pub type : Tree
  pub spells : spell type [] ≡ bytes
  pub short : length bytes ≤ 255
  pub few_arrays : arrays type ≤ 32
  pub few_structs : structs type ≤ 32

-- the first complete type ends at n; where there is none, n is 0
abbrev pub EndsAt : Trees → List ℕ → ℕ → Type 0
EndsAt none bytes n = n ≡ 0
EndsAt (more t ts) bytes n = (n ≤ length bytes) × (spell t (drop n bytes) ≡ bytes)

-- the element at the front ends at n
pub record ElementEnds (bytes : List ℕ) (n : ℕ) : Type 0 where
  pub element : Element
  pub within : n ≤ length bytes
  pub spells : spell_element element (drop n bytes) ≡ bytes

-- what a type begins with
abbrev pub head_of_type : Tree → Head
head_of_type (basic b) = head.Basic b
head_of_type variant = head.Variant
head_of_type (array e) = head.Array
head_of_type (struct t ts) = head.Struct

abbrev pub head_of_element : Element → Head
head_of_element (single t) = head_of_type t
head_of_element (entry k t) = head.Entry

-- A spelling is of one list of types, and of one element with one rest.
pub record SpelledOnce : Type 0 where
  pub types : (ts us : Trees) → spell_all ts [] ≡ spell_all us [] → ts ≡ us
  pub element : (e f : Element) (rest other : List ℕ) → spell_element e rest ≡ spell_element f other → (e ≡ f) × (rest ≡ other)
