-- A spelling begins with its type's head, is longer than its rest, and is of one type.
use Rattle.std.proofs.Common.{◌≡◌, ℕ, ◌+◌, ◌<◌, ◌≤◌, List, [], ◌∷◌, ◌++◌, length, sym, refl, ap, ◌∙◌, ap₂, arith}
use mathlib.Core.List.{head-eq_of_cons-eq, tail-eq_of_cons-eq}
use Rattle.signature.specs.declared.codes.Head.TheVariants as head
use Rattle.signature.specs.Codes.{code, head_code}
use Rattle.signature.specs.Trees.{Tree, basic, variant, array, struct, Element, single, entry, Trees, none, more, spell, spell_element, spell_all, head_of_type, head_of_element, arrays, element_arrays, all_arrays, structs, element_structs, all_structs, SpelledOnce}
use Rattle.signature.proofs.Heads.{head_once, code_once, not_closing, apart}

-- the first code
pub begins : (t : Tree) (rest xs : List ℕ) (c : ℕ) → spell t rest ≡ c ∷ xs → head_code (head_of_type t) ≡ c
begins (basic b) rest xs c e = head-eq_of_cons-eq e
begins variant rest xs c e = head-eq_of_cons-eq e
begins (array e₁) rest xs c e = head-eq_of_cons-eq e
begins (struct t ts) rest xs c e = head-eq_of_cons-eq e

pub element_begins : (e : Element) (rest xs : List ℕ) (c : ℕ) → spell_element e rest ≡ c ∷ xs → head_code (head_of_element e) ≡ c
element_begins (single t) rest xs c e = begins t rest xs c e
element_begins (entry k t) rest xs c e = head-eq_of_cons-eq e

-- no type begins with a closing bracket, and none with the bracket of a dict entry
pub no_close : (t : Tree) (rest xs : List ℕ) → spell t rest ≡ 41 ∷ xs → ⊥
no_close t rest xs e = (not_closing (head_of_type t)).0 (begins t rest xs 41 e)

pub no_end : (t : Tree) (rest xs : List ℕ) → spell t rest ≡ 125 ∷ xs → ⊥
no_end t rest xs e = (not_closing (head_of_type t)).1 (begins t rest xs 125 e)

not_entry : (t : Tree) → head_of_type t ≡ head.Entry → ⊥
not_entry (basic b) e = apart e (omega arith)
not_entry variant e = apart e (omega arith)
not_entry (array e₁) e = apart e (omega arith)
not_entry (struct t ts) e = apart e (omega arith)

pub no_entry : (t : Tree) (rest xs : List ℕ) → spell t rest ≡ 123 ∷ xs → ⊥
no_entry t rest xs e = not_entry t (head_once (head_of_type t) head.Entry (begins t rest xs 123 e))

-- how long
mutual
  pub longer : (t : Tree) (r : List ℕ) → length r < length (spell t r)
  longer (basic b) r = omega arith
  longer variant r = omega arith
  longer (array e) r = omega (arith, element_longer e r)
  longer (struct t ts) r = omega (arith, longer t (spell_all ts (41 ∷ r)), all_longer ts (41 ∷ r))

  pub element_longer : (e : Element) (r : List ℕ) → length r < length (spell_element e r)
  element_longer (single t) r = longer t r
  element_longer (entry k t) r = omega (arith, longer t (125 ∷ r))

  pub all_longer : (ts : Trees) (r : List ℕ) → length r ≤ length (spell_all ts r)
  all_longer none r = omega arith
  all_longer (more t ts) r = omega (arith, longer t (spell_all ts r), all_longer ts r)

-- the rest is the end of the spelling
mutual
  pub appended : (t : Tree) (r q : List ℕ) → spell t (r ++ q) ≡ spell t r ++ q
  appended (basic b) r q = refl
  appended variant r q = refl
  appended (array e) r q = ap (λ xs. 97 ∷ xs) (element_appended e r q)
  appended (struct t ts) r q =
      ap (λ xs. 40 ∷ xs) (ap (spell t) (all_appended ts (41 ∷ r) q) ∙ appended t (spell_all ts (41 ∷ r)) q)

  pub element_appended : (e : Element) (r q : List ℕ) → spell_element e (r ++ q) ≡ spell_element e r ++ q
  element_appended (single t) r q = appended t r q
  element_appended (entry k t) r q = ap (λ xs. 123 ∷ code k ∷ xs) (appended t (125 ∷ r) q)

  pub all_appended : (ts : Trees) (r q : List ℕ) → spell_all ts (r ++ q) ≡ spell_all ts r ++ q
  all_appended none r q = refl
  all_appended (more t ts) r q = ap (spell t) (all_appended ts r q) ∙ appended t (spell_all ts r) q

-- a type goes no deeper than its spelling is long
mutual
  pub shallow : (t : Tree) (r : List ℕ) → (length r + arrays t ≤ length (spell t r)) × (length r + structs t ≤ length (spell t r))
  shallow (basic b) r = omega arith
  shallow variant r = omega arith
  shallow (array e) r = let h = element_shallow e r in omega arith
  shallow (struct t ts) r =
      let h = shallow t (spell_all ts (41 ∷ r)) in
      let k = all_shallow ts (41 ∷ r) in
      let j = longer t (spell_all ts (41 ∷ r)) in
      let i = all_longer ts (41 ∷ r) in
      omega arith

  pub element_shallow : (e : Element) (r : List ℕ) → (length r + element_arrays e ≤ length (spell_element e r)) × (length r + element_structs e ≤ length (spell_element e r))
  element_shallow (single t) r = shallow t r
  element_shallow (entry k t) r = let h = shallow t (125 ∷ r) in omega arith

  pub all_shallow : (ts : Trees) (r : List ℕ) → (length r + all_arrays ts ≤ length (spell_all ts r)) × (length r + all_structs ts ≤ length (spell_all ts r))
  all_shallow none r = omega arith
  all_shallow (more t ts) r =
      let h = shallow t (spell_all ts r) in
      let k = all_shallow ts r in
      let j = longer t (spell_all ts r) in
      let i = all_longer ts r in
      omega arith

-- equal spellings begin alike
alike : (t u : Tree) (r q : List ℕ) → spell t r ≡ spell u q → head_of_type t ≡ head_of_type u
alike t (basic b) r q e = head_once (head_of_type t) (head.Basic b) (begins t r q (code b) e)
alike t variant r q e = head_once (head_of_type t) head.Variant (begins t r q 118 e)
alike t (array f) r q e = head_once (head_of_type t) head.Array (begins t r (spell_element f q) 97 e)
alike t (struct u us) r q e = head_once (head_of_type t) head.Struct (begins t r (spell u (spell_all us (41 ∷ q))) 40 e)

-- one spelling is of one type with one rest
mutual
  pub once : (t u : Tree) (r q : List ℕ) → spell t r ≡ spell u q → (t ≡ u) × (r ≡ q)
  once (basic b) (basic d) r q e = (ap basic (code_once b d (head-eq_of_cons-eq e)), tail-eq_of_cons-eq e)
  once variant variant r q e = (refl, tail-eq_of_cons-eq e)
  once (array f) (array g) r q e = let k = once_element f g r q (tail-eq_of_cons-eq e) in (ap array k.0, k.1)
  once (struct t ts) (struct u us) r q e =
      let k = once t u (spell_all ts (41 ∷ r)) (spell_all us (41 ∷ q)) (tail-eq_of_cons-eq e) in
      let j = once_closed ts us r q k.1 in
      (ap₂ struct k.0 j.0, j.1)
  once (basic b) variant r q e = apart (alike (basic b) variant r q e) (omega arith)
  once (basic b) (array g) r q e = apart (alike (basic b) (array g) r q e) (omega arith)
  once (basic b) (struct u us) r q e = apart (alike (basic b) (struct u us) r q e) (omega arith)
  once variant (basic d) r q e = apart (alike variant (basic d) r q e) (omega arith)
  once variant (array g) r q e = apart (alike variant (array g) r q e) (omega arith)
  once variant (struct u us) r q e = apart (alike variant (struct u us) r q e) (omega arith)
  once (array f) (basic d) r q e = apart (alike (array f) (basic d) r q e) (omega arith)
  once (array f) variant r q e = apart (alike (array f) variant r q e) (omega arith)
  once (array f) (struct u us) r q e = apart (alike (array f) (struct u us) r q e) (omega arith)
  once (struct t ts) (basic d) r q e = apart (alike (struct t ts) (basic d) r q e) (omega arith)
  once (struct t ts) variant r q e = apart (alike (struct t ts) variant r q e) (omega arith)
  once (struct t ts) (array g) r q e = apart (alike (struct t ts) (array g) r q e) (omega arith)

  pub once_element : (f g : Element) (r q : List ℕ) → spell_element f r ≡ spell_element g q → (f ≡ g) × (r ≡ q)
  once_element (single t) (single u) r q e = let k = once t u r q e in (ap single k.0, k.1)
  once_element (single t) (entry j u) r q e = absurd (no_entry t r (code j ∷ spell u (125 ∷ q)) e)
  once_element (entry k t) (single u) r q e = absurd (no_entry u q (code k ∷ spell t (125 ∷ r)) (sym e))
  once_element (entry k t) (entry j u) r q e =
      let h = once t u (125 ∷ r) (125 ∷ q) (tail-eq_of_cons-eq (tail-eq_of_cons-eq e)) in
      (ap₂ entry (code_once k j (head-eq_of_cons-eq (tail-eq_of_cons-eq e))) h.0, tail-eq_of_cons-eq h.1)

  pub once_closed : (ts us : Trees) (r q : List ℕ) → spell_all ts (41 ∷ r) ≡ spell_all us (41 ∷ q) → (ts ≡ us) × (r ≡ q)
  once_closed none none r q e = (refl, tail-eq_of_cons-eq e)
  once_closed none (more u us) r q e = absurd (no_close u (spell_all us (41 ∷ q)) r (sym e))
  once_closed (more t ts) none r q e = absurd (no_close t (spell_all ts (41 ∷ r)) q e)
  once_closed (more t ts) (more u us) r q e =
      let k = once t u (spell_all ts (41 ∷ r)) (spell_all us (41 ∷ q)) e in
      let j = once_closed ts us r q k.1 in
      (ap₂ more k.0 j.0, j.1)

pub no_empty : (t : Tree) (r : List ℕ) → spell t r ≡ [] → ⊥
no_empty t r e = omega (arith, longer t r, ap length e)

pub once_all : (ts us : Trees) → spell_all ts [] ≡ spell_all us [] → ts ≡ us
once_all none none e = refl
once_all none (more u us) e = absurd (no_empty u (spell_all us []) (sym e))
once_all (more t ts) none e = absurd (no_empty t (spell_all ts []) e)
once_all (more t ts) (more u us) e =
    let k = once t u (spell_all ts []) (spell_all us []) e in
    ap₂ more k.0 (once_all ts us k.1)

pub spelled_once : SpelledOnce
spelled_once = record { types = once_all; element = once_element }
