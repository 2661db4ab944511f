-- What the head at the front of bytes tells of the type there, and types one after the other.
use Rattle.std.proofs.Common.{◌≡◌, ℕ, ◌+◌, ◌-◌, ◌<◌, ◌≤◌, Bool, true, false, Decides, List, [], ◌∷◌, ◌++◌, length, drop, Some, None, Ok, Err, Option, Result, sym, refl, ap, ◌∙◌, subst, arith, MatchOption, ◌⊎◌, inl, inr}
use Rattle.std.specs.Result.{result_ok}
use Rattle.std.specs.Bool.{then_some}
use Rattle.std.proofs.lemmas.Bool.{false≢true}
use mathlib.Core.List.{head-eq_of_cons-eq, tail-eq_of_cons-eq}
use Rattle.std.proofs.lemmas.Option.{none-some}
use Rattle.std.proofs.lemmas.List.{drop_all, drop_at, length-append, length-drop}
use Rattle.signature.specs.declared.codes.Basic.{Basic}
use Rattle.signature.specs.declared.codes.Head.{Head}
use Rattle.signature.specs.declared.codes.Head.TheVariants as head
use Rattle.signature.specs.declared.codes.NoCode.{NoCode}
use Rattle.signature.specs.Codes.{code, head_code, IsBasicOf, IsHeadOf}
use Rattle.signature.specs.Trees.{Tree, basic, variant, array, struct, Element, single, entry, Trees, none, more, spell, spell_element, spell_all, arrays, element_arrays, all_arrays, structs, element_structs, all_structs, head_of_type, Signature, Single, EndsAt}
use Rattle.signature.specs.Phrases.{TypeAt, ElementAt, EntryAt, MembersAt, Types}
use Rattle.signature.proofs.Heads.{head_once, apart}
use Rattle.signature.proofs.Spellings.{begins, no_entry, no_empty, longer, appended, element_appended, once}

pub weaken : {A : Type 0} (o : Option A) {P P' : Type 0} {Q Q' : A → Type 0} → (P → P') → ((x : A) → Q x → Q' x) → MatchOption o P Q → MatchOption o P' Q'
weaken None f g h = f h
weaken (Some x) f g h = g x h

pub shorter : (s left : List ℕ) (a d : ℕ) → TypeAt s a d left → length left < length s
shorter s left a d h = omega (arith, longer h.type left, ap length h.spells)

-- at one place one type leaves one rest
pub one_rest : (s left other : List ℕ) (a d : ℕ) → TypeAt s a d left → TypeAt s a d other → left ≡ other
one_rest s left other a d h k = (once h.type k.type left other (h.spells ∙ sym k.spells)).1

-- bytes that begin with the code of a head
pub record Begins (s rest : List ℕ) (h : Head) : Type 0 where
  pub spells : head_code h ∷ rest ≡ s

-- what stands at the front, by what the conversion of the first byte tells
pub begun : (s rest : List ℕ) (c : ℕ) (r : Result Head NoCode) (h : Head) → s ≡ c ∷ rest → Some h ≡ result_ok r → IsHeadOf c r → Begins s rest h
begun s rest c (Ok k) h front e told =
    let same : h ≡ k = cc in
    record { spells = ap (λ (y : Head). head_code y ∷ rest) same ∙ ap (λ (y : ℕ). y ∷ rest) told ∙ sym front }
begun s rest c (Err x) h front e told = absurd (none-some h (sym e))

-- no type where no head has the code
pub no_head : (s rest : List ℕ) (c a d : ℕ) (r : Result Head NoCode) → s ≡ c ∷ rest → None ≡ result_ok r → IsHeadOf c r → (left : List ℕ) → TypeAt s a d left → ⊥
no_head s rest c a d (Ok k) front e told left t = none-some k e
no_head s rest c a d (Err x) front e told left t = told (head_of_type t.type) (begins t.type left rest c (t.spells ∙ front))

-- the type of a key, by what the conversion of its byte tells
pub keyed : (c : ℕ) (r : Result Basic NoCode) (b : Basic) → Some b ≡ result_ok r → IsBasicOf c r → code b ≡ c
keyed c (Ok k) b e told = let same : b ≡ k = cc in ap code same ∙ told
keyed c (Err x) b e told = absurd (none-some b (sym e))

module _ {s rest : List ℕ} {h : Head} (front : Begins s rest h) (a d : ℕ) where
  pub head_there : (left : List ℕ) (t : TypeAt s a d left) → head_of_type t.type ≡ h
  head_there left t = head_once (head_of_type t.type) h (begins t.type left rest (head_code h) (t.spells ∙ sym front.spells))

  rest_there : (xs : List ℕ) → rest ≡ xs → head_code h ∷ xs ≡ s
  rest_there xs e = ap (λ (ys : List ℕ). head_code h ∷ ys) (sym e) ∙ front.spells

  leaf_by : (t : Tree) → arrays t ≡ 0 → structs t ≡ 0 → spell t rest ≡ s → TypeAt s a d rest
  leaf_by t fa fd e = record { type = t; spells = e; few_arrays = omega arith; few_structs = omega arith }

  pub leaf_there : ((b : Basic) × (h ≡ head.Basic b)) ⊎ (h ≡ head.Variant) → TypeAt s a d rest
  leaf_there (inl e) = leaf_by (basic e.0) refl refl (ap (λ (k : Head). head_code k ∷ rest) (sym e.1) ∙ front.spells)
  leaf_there (inr e) = leaf_by variant refl refl (ap (λ (k : Head). head_code k ∷ rest) (sym e) ∙ front.spells)

  entry_by : (t : Tree) → head_of_type t ≡ head.Entry → ⊥
  entry_by (basic b) k = apart k (omega arith)
  entry_by variant k = apart k (omega arith)
  entry_by (array f) k = apart k (omega arith)
  entry_by (struct t ts) k = apart k (omega arith)

  pub no_entry_there : h ≡ head.Entry → (left : List ℕ) → TypeAt s a d left → ⊥
  no_entry_there e left t = entry_by t.type (head_there left t ∙ e)

  -- an array
  array_by : (t : Tree) (left : List ℕ) → head_of_type t ≡ head.Array → spell t left ≡ head_code h ∷ rest → arrays t ≤ a → structs t ≤ d → (m : ℕ) → a ≤ m + 1 → (1 ≤ a) × ElementAt rest m d left
  array_by (basic b) left k e fa fd m l = apart k (omega arith)
  array_by variant left k e fa fd m l = apart k (omega arith)
  array_by (array f) left k e fa fd m l = (omega arith, record { element = f; spells = tail-eq_of_cons-eq e; few_arrays = omega arith; few_structs = fd })
  array_by (struct t ts) left k e fa fd m l = apart k (omega arith)

  pub array_there : h ≡ head.Array → (left : List ℕ) → TypeAt s a d left → (m : ℕ) → a ≤ m + 1 → (1 ≤ a) × ElementAt rest m d left
  array_there e left t m l = array_by t.type left (head_there left t ∙ e) (t.spells ∙ sym front.spells) t.few_arrays t.few_structs m l

  pub array_of : h ≡ head.Array → (left : List ℕ) (m : ℕ) → m + 1 ≡ a → ElementAt rest m d left → TypeAt s a d left
  array_of e left m l t = record {
    type = array t.element;
    spells = ap (λ (k : Head). head_code k ∷ spell_element t.element left) (sym e) ∙ rest_there (spell_element t.element left) (sym t.spells);
    few_arrays = omega (arith, t.few_arrays);
    few_structs = t.few_structs;
  }

  -- a struct
  struct_by : (t : Tree) (left : List ℕ) → head_of_type t ≡ head.Struct → spell t left ≡ head_code h ∷ rest → arrays t ≤ a → structs t ≤ d → (m : ℕ) → d ≤ m + 1 → (1 ≤ d) × MembersAt rest a m left
  struct_by (basic b) left k e fa fd m l = apart k (omega arith)
  struct_by variant left k e fa fd m l = apart k (omega arith)
  struct_by (array f) left k e fa fd m l = apart k (omega arith)
  struct_by (struct t ts) left k e fa fd m l =
      (omega arith, record { type = t; types = ts; spells = tail-eq_of_cons-eq e; few_arrays = omega arith; few_structs = omega arith })

  pub struct_there : h ≡ head.Struct → (left : List ℕ) → TypeAt s a d left → (m : ℕ) → d ≤ m + 1 → (1 ≤ d) × MembersAt rest a m left
  struct_there e left t m l = struct_by t.type left (head_there left t ∙ e) (t.spells ∙ sym front.spells) t.few_arrays t.few_structs m l

  pub struct_of : h ≡ head.Struct → (left : List ℕ) (m : ℕ) → m + 1 ≡ d → MembersAt rest a m left → TypeAt s a d left
  struct_of e left m l t = record {
    type = struct t.type t.types;
    spells = ap (λ (k : Head). head_code k ∷ spell t.type (spell_all t.types (41 ∷ left))) (sym e) ∙ rest_there (spell t.type (spell_all t.types (41 ∷ left))) (sym t.spells);
    few_arrays = omega (arith, t.few_arrays.0, t.few_arrays.1);
    few_structs = omega (arith, t.few_structs.0, t.few_structs.1);
  }

-- what an array is of
module _ (s : List ℕ) (a d : ℕ) where
  dict_by : (e : Element) (inner left : List ℕ) → s ≡ 123 ∷ inner → (h : ElementAt s a d left) → h.element ≡ e → (m : ℕ) → d ≤ m + 1 → (1 ≤ d) × EntryAt inner a m left
  dict_by (single t) inner left f h k m l = absurd (no_entry t left inner (ap (λ (x : Element). spell_element x left) (sym k) ∙ h.spells ∙ f))
  dict_by (entry key t) inner left f h k m l =
      let deep = subst (λ (x : Element). element_structs x ≤ d) k h.few_structs in
      let flat = subst (λ (x : Element). element_arrays x ≤ a) k h.few_arrays in (
        omega arith,
        record {
          key = key;
          type = t;
          spells = tail-eq_of_cons-eq (ap (λ (x : Element). spell_element x left) (sym k) ∙ h.spells ∙ f);
          few_arrays = flat;
          few_structs = omega arith;
        },
      )

  pub dict_there : (inner left : List ℕ) → s ≡ 123 ∷ inner → ElementAt s a d left → (m : ℕ) → d ≤ m + 1 → (1 ≤ d) × EntryAt inner a m left
  dict_there inner left f h m l = dict_by h.element inner left f h refl m l

  pub dict_of : (inner left : List ℕ) → s ≡ 123 ∷ inner → (m : ℕ) → m + 1 ≡ d → EntryAt inner a m left → ElementAt s a d left
  dict_of inner left f m l h = record {
    element = entry h.key h.type;
    spells = ap (λ (xs : List ℕ). 123 ∷ xs) h.spells ∙ sym f;
    few_arrays = h.few_arrays;
    few_structs = omega (arith, h.few_structs);
  }

  type_by : (e : Element) (left : List ℕ) → ((xs : List ℕ) → s ≡ 123 ∷ xs → ⊥) → spell_element e left ≡ s → element_arrays e ≤ a → element_structs e ≤ d → TypeAt s a d left
  type_by (single t) left ne k fa fd = record { type = t; spells = k; few_arrays = fa; few_structs = fd }
  type_by (entry key t) left ne k fa fd = absurd (ne (code key ∷ spell t (125 ∷ left)) (sym k))

  pub type_there : (left : List ℕ) → ((xs : List ℕ) → s ≡ 123 ∷ xs → ⊥) → ElementAt s a d left → TypeAt s a d left
  type_there left ne h = type_by h.element left ne h.spells h.few_arrays h.few_structs

  pub type_of : (left : List ℕ) → TypeAt s a d left → ElementAt s a d left
  type_of left h = record { element = single h.type; spells = h.spells; few_arrays = h.few_arrays; few_structs = h.few_structs }

  -- a dict entry
  pub value_there : (c : ℕ) (value left : List ℕ) → s ≡ c ∷ value → (h : EntryAt s a d left) → (code h.key ≡ c) × TypeAt value a d (125 ∷ left)
  value_there c value left f h =
      (head-eq_of_cons-eq (h.spells ∙ f), record { type = h.type; spells = tail-eq_of_cons-eq (h.spells ∙ f); few_arrays = h.few_arrays; few_structs = h.few_structs })

  pub entry_of : (c : ℕ) (value left : List ℕ) (b : Basic) → s ≡ c ∷ value → code b ≡ c → TypeAt value a d (125 ∷ left) → EntryAt s a d left
  entry_of c value left b f e h = record {
    key = b;
    type = h.type;
    spells = ap (λ (x : ℕ). x ∷ spell h.type (125 ∷ left)) e ∙ ap (λ (xs : List ℕ). c ∷ xs) h.spells ∙ sym f;
    few_arrays = h.few_arrays;
    few_structs = h.few_structs;
  }

  -- the members of a struct
  pub first_member : (left : List ℕ) (h : MembersAt s a d left) → TypeAt s a d (spell_all h.types (41 ∷ left))
  first_member left h = record { type = h.type; spells = h.spells; few_arrays = h.few_arrays.0; few_structs = h.few_structs.0 }

  pub last_member : (left : List ℕ) → TypeAt s a d (41 ∷ left) → MembersAt s a d left
  last_member left h = record {
    type = h.type;
    types = none;
    spells = h.spells;
    few_arrays = (h.few_arrays, omega arith);
    few_structs = (h.few_structs, omega arith);
  }

  pub next_member : (rest left : List ℕ) → TypeAt s a d rest → MembersAt rest a d left → MembersAt s a d left
  next_member rest left h k = record {
    type = h.type;
    types = more k.type k.types;
    spells = ap (spell h.type) k.spells ∙ h.spells;
    few_arrays = (h.few_arrays, omega (arith, k.few_arrays.0, k.few_arrays.1));
    few_structs = (h.few_structs, omega (arith, k.few_structs.0, k.few_structs.1));
  }

  others_by : (ts : Trees) (rest left : List ℕ) → ((xs : List ℕ) → rest ≡ 41 ∷ xs → ⊥) → spell_all ts (41 ∷ left) ≡ rest → all_arrays ts ≤ a → all_structs ts ≤ d → MembersAt rest a d left
  others_by none rest left ne e fa fd = absurd (ne left (sym e))
  others_by (more t ts) rest left ne e fa fd = record { type = t; types = ts; spells = e; few_arrays = omega arith; few_structs = omega arith }

  pub other_members : (rest left : List ℕ) → ((xs : List ℕ) → rest ≡ 41 ∷ xs → ⊥) → TypeAt s a d rest → MembersAt s a d left → MembersAt rest a d left
  other_members rest left ne h k =
      others_by k.types rest left ne (one_rest s (spell_all k.types (41 ∷ left)) rest a d (first_member left k) h) k.few_arrays.1 k.few_structs.1

-- types one after the other
pub no_types : (s : List ℕ) → length s ≡ 0 → Types s
no_types [] e = record { types = none; spells = refl; few_arrays = omega arith; few_structs = omega arith }
no_types (x ∷ xs) e = absurd (omega arith)

pub types_before : (s rest : List ℕ) → TypeAt s 32 32 rest → Types rest → Types s
types_before s rest h k = record {
  types = more h.type k.types;
  spells = ap (spell h.type) k.spells ∙ h.spells;
  few_arrays = omega (arith, h.few_arrays, k.few_arrays);
  few_structs = omega (arith, h.few_structs, k.few_structs);
}

after_by : (ts : Trees) (s rest : List ℕ) → TypeAt s 32 32 rest → spell_all ts [] ≡ s → all_arrays ts ≤ 32 → all_structs ts ≤ 32 → Types rest
after_by none s rest h e fa fd = absurd (no_empty h.type rest (h.spells ∙ sym e))
after_by (more t ts) s rest h e fa fd = record {
  types = ts;
  spells = (once t h.type (spell_all ts []) rest (e ∙ sym h.spells)).1;
  few_arrays = omega arith;
  few_structs = omega arith;
}

pub types_after : (s rest : List ℕ) → TypeAt s 32 32 rest → Types s → Types rest
types_after s rest h k = after_by k.types s rest h k.spells k.few_arrays k.few_structs

front_by : (ts : Trees) (s : List ℕ) → 0 < length s → spell_all ts [] ≡ s → all_arrays ts ≤ 32 → all_structs ts ≤ 32 → (left : List ℕ) × TypeAt s 32 32 left
front_by none s l e fa fd = absurd (omega (arith, ap length e))
front_by (more t ts) s l e fa fd = (spell_all ts [], record { type = t; spells = e; few_arrays = omega arith; few_structs = omega arith })

pub types_front : (s : List ℕ) → 0 < length s → Types s → (left : List ℕ) × TypeAt s 32 32 left
types_front s l k = front_by k.types s l k.spells k.few_arrays k.few_structs

-- a signature is short, and nothing but types
pub signature_of : (s : List ℕ) → length s ≤ 255 → Types s → Signature s
signature_of s l h = record { types = h.types; spells = h.spells; short = l; few_arrays = h.few_arrays; few_structs = h.few_structs }

pub types_of : (s : List ℕ) → Signature s → Types s
types_of s h = record { types = h.types; spells = h.spells; few_arrays = h.few_arrays; few_structs = h.few_structs }

-- where what is spelled ends
rest_is : (xs rest : List ℕ) → drop (length (xs ++ rest) - length rest) (xs ++ rest) ≡ rest
rest_is xs rest = let e : length (xs ++ rest) - length rest ≡ length xs = omega (arith, length-append xs rest) in drop_at xs rest (length (xs ++ rest) - length rest) (sym e)

pub type_ends : (t : Tree) (s rest : List ℕ) → spell t rest ≡ s → spell t (drop (length s - length rest) s) ≡ s
type_ends t s rest e =
    let f : spell t [] ++ rest ≡ s = sym (appended t [] rest) ∙ e in
    ap (spell t) (subst (λ (xs : List ℕ). drop (length xs - length rest) xs ≡ rest) f (rest_is (spell t []) rest)) ∙ e

pub element_ends : (x : Element) (s rest : List ℕ) → spell_element x rest ≡ s → spell_element x (drop (length s - length rest) s) ≡ s
element_ends x s rest e =
    let f : spell_element x [] ++ rest ≡ s = sym (element_appended x [] rest) ∙ e in
    ap (spell_element x) (subst (λ (xs : List ℕ). drop (length xs - length rest) xs ≡ rest) f (rest_is (spell_element x []) rest)) ∙ e

-- a signature of one type ends where its first type does
one_by : (ts : Trees) (s : List ℕ) (n : ℕ) → spell_all ts [] ≡ s → length s ≤ 255 → all_arrays ts ≤ 32 → all_structs ts ≤ 32 → EndsAt ts s n → 0 < n → n ≡ length s → Single s
one_by none s n e l fa fd h p k = absurd (omega arith)
one_by (more t ts) s n e l fa fd h p k = record {
  type = t;
  spells = ap (spell t) (sym (drop_all n s (omega arith))) ∙ h.1;
  short = l;
  few_arrays = omega arith;
  few_structs = omega arith;
}

pub one_type : (s : List ℕ) (n : ℕ) (h : Signature s) → EndsAt h.types s n → 0 < n → n ≡ length s → Single s
one_type s n h e p k = one_by h.types s n h.spells h.short h.few_arrays h.few_structs e p k

end_by : (ts : Trees) (s : List ℕ) (n : ℕ) → spell_all ts [] ≡ s → EndsAt ts s n → Single s → (0 < n) × (n ≡ length s)
end_by none s n e h k = absurd (no_empty k.type [] (k.spells ∙ sym e))
end_by (more t ts) s n e h k =
    let left = ap length (once t k.type (drop n s) [] (h.1 ∙ sym k.spells)).1 in
    let size = length-drop n s in
    let long = longer k.type [] in
    let all = ap length k.spells in
    (omega arith, omega arith)

pub one_end : (s : List ℕ) (n : ℕ) (h : Signature s) → EndsAt h.types s n → Single s → (0 < n) × (n ≡ length s)
one_end s n h e k = end_by h.types s n h.spells e k

pub single_signature : (s : List ℕ) → Single s → Signature s
single_signature s k = record {
  types = more k.type none;
  spells = k.spells;
  short = k.short;
  few_arrays = omega (arith, k.few_arrays);
  few_structs = omega (arith, k.few_structs);
}

-- the first of types, and the others behind it
pub first_ends : (s rest : List ℕ) → length s ≤ 255 → TypeAt s 32 32 rest → Types rest → (h : Signature s) × EndsAt h.types s (length s - length rest)
unfolding signature_of types_before
first_ends s rest l h k = (signature_of s l (types_before s rest h k), (omega arith, type_ends h.type s rest h.spells))

pub empty_ends : (s : List ℕ) → length s ≡ 0 → (h : Signature s) × EndsAt h.types s 0
unfolding signature_of no_types
empty_ends [] e = (signature_of [] (omega arith) (no_types [] e), refl)
empty_ends (x ∷ xs) e = absurd (omega arith)

-- what a test of the bytes behind the first type tells of all
pub first_by : (s rest : List ℕ) (b : Bool) (o : Option ℕ) → length s ≤ 255 → TypeAt s 32 32 rest → Decides b (Types rest) → o ≡ then_some b (length s - length rest) → MatchOption o (Signature s → ⊥) (λ n. (h : Signature s) × EndsAt h.types s n)
first_by s rest true o l h d e = rw e (first_ends s rest l h (d.0 refl))
first_by s rest false o l h d e = rw e (λ k. false≢true (d.1 (types_after s rest h (types_of s k))))

-- a signature is of one type exactly where the first type is all of it
pub single_by : (s : List ℕ) (o : Option ℕ) (r : Bool) → MatchOption o (Signature s → ⊥) (λ n. (h : Signature s) × EndsAt h.types s n) → MatchOption o (r ≡ false) (λ n. Decides r ((0 < n) × (n ≡ length s))) → Decides r (Single s)
single_by s None r h e = (λ t. absurd (false≢true (sym e ∙ t)), λ k. absurd (h (single_signature s k)))
single_by s (Some n) r h d = (λ t. let p = d.0 t in one_type s n h.0 h.1 p.0 p.1, λ k. d.1 (one_end s n h.0 h.1 k))
