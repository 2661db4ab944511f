-- The examples of signatures.
use Rattle.std.proofs.Common.{◌≡◌, ℕ, zero, suc, ◌≤◌, List, [], ◌∷◌, length, codes, sym, refl, ap, ◌∙◌, arith}
use Rattle.signature.specs.declared.codes.Basic.TheVariants.{Byte, Text}
use Rattle.signature.specs.declared.codes.Head.TheVariants as head
use Rattle.signature.specs.Trees.{Tree, basic, variant, array, single, entry, none, more, spell, arrays, all_arrays, structs, Signature}
use Rattle.signature.specs.Phrases.{TypeAt}
use Rattle.signature.specs.Examples.{nested, Examples}
use Rattle.signature.proofs.Heads.{head_once, apart}
use Rattle.signature.proofs.Spellings.{no_close, element_longer, once_all}
use Rattle.signature.proofs.Fronts.{Begins, array_there, struct_there, dict_there, value_there, first_member, types_front, types_of}

front : (s : List ℕ) → 1 ≤ length s → Signature s → (left : List ℕ) × TypeAt s 32 32 left
front s l h = types_front s l (types_of s h)

key_not_basic : Signature (codes "a{vs}") → ⊥
key_not_basic h =
    let s = codes "a{vs}" in
    let inner = codes "vs}" in
    let t = front s (omega arith) h in
    let begins : Begins s (123 ∷ inner) head.Array = record { spells = refl } in
    let e = (array_there begins 32 32 refl t.0 t.1 31 (omega arith)).1 in
    let d = (dict_there (123 ∷ inner) 31 32 inner t.0 refl e 31 (omega arith)).1 in
    let k = (value_there inner 31 31 118 (codes "s}") t.0 refl d).0 in
    apart (head_once (head.Basic d.key) head.Variant k) (omega arith)

empty_struct : Signature (codes "()") → ⊥
empty_struct h =
    let t = front (codes "()") (omega arith) h in
    let begins : Begins (codes "()") (codes ")") head.Struct = record { spells = refl } in
    let m = (struct_there begins 32 32 refl t.0 t.1 31 (omega arith)).1 in
    let f = first_member (codes ")") 32 31 t.0 m in
    no_close f.type _ [] f.spells

array_of_nothing : Signature (codes "a") → ⊥
array_of_nothing h =
    let t = front (codes "a") (omega arith) h in
    let begins : Begins (codes "a") [] head.Array = record { spells = refl } in
    let e = (array_there begins 32 32 refl t.0 t.1 31 (omega arith)).1 in
    omega (arith, element_longer e.element t.0, ap length e.spells)

-- arrays of arrays, of bytes at last
deep : ℕ → Tree
deep zero = basic Byte
deep (suc n) = array (single (deep n))

deep_spells : (n : ℕ) → spell (deep n) [] ≡ nested n
unfolding deep
deep_spells zero = refl
deep_spells (suc n) = ap (λ (xs : List ℕ). 97 ∷ xs) (deep_spells n)

deep_arrays : (n : ℕ) → arrays (deep n) ≡ n
unfolding deep
deep_arrays zero = refl
deep_arrays (suc n) = let e = deep_arrays n in omega arith

deep_structs : (n : ℕ) → structs (deep n) ≡ 0
unfolding deep
deep_structs zero = refl
deep_structs (suc n) = deep_structs n

deepest : Signature (nested 32)
deepest = record {
  types = more (deep 32) none;
  spells = deep_spells 32;
  short = omega arith;
  few_arrays = omega (arith, deep_arrays 32);
  few_structs = omega (arith, deep_structs 32);
}

too_deep : Signature (nested 33) → ⊥
too_deep h =
    let e = ap all_arrays (once_all h.types (more (deep 33) none) (h.spells ∙ sym (deep_spells 33))) in
    omega (arith, deep_arrays 33, h.few_arrays)

pub samples : Examples
samples = record {
  dictionary = record { types = more (array (entry Text variant)) none; spells = refl; short = omega arith; few_arrays = omega arith; few_structs = omega arith };
  key_not_basic = key_not_basic;
  empty_struct = empty_struct;
  array_of_nothing = array_of_nothing;
  deepest = deepest;
  too_deep = too_deep;
}
