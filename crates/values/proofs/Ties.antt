-- What ties a walk to what it owes: the codes that are to come, the limits, the frames.
use Rattle.std.proofs.Common.{◌≡◌, ℕ, ◌+◌, ◌-◌, ◌*◌, ◌^◌, ◌<◌, ◌≤◌, ◌⊎◌, List, [], ◌∷◌, ◌++◌, length, get_or, take, drop, Some, sym, refl, ap, subst, ◌∙◌, inl, inr, arith, length-append, length-drop, take-append-drop, drop-drop}
use Rattle.std.specs.List.{slice_get}
use Rattle.std.proofs.lemmas.Grind.{common_steps}
use Rattle.std.proofs.lemmas.Option.{slice_get-get_or}
use Rattle.std.proofs.lemmas.List.{drop_more, drop-take, take-take}
use Rattle.signature.specs.declared.codes.Basic.{Basic}
use Rattle.signature.specs.declared.codes.Head.{Head}
use Rattle.signature.specs.declared.codes.Head.TheVariants as head
use Rattle.signature.specs.Codes.{head_code}
use Rattle.signature.specs.Trees.{Tree, basic, variant, array, struct, Element, single, entry, Trees, none, more, spell, spell_element, spell_all, head_of_element, Single}
use Rattle.signature.proofs.Heads.{head_once}
use Rattle.signature.proofs.Spellings.{appended, longer, element_longer, all_longer, all_appended, element_begins}
use Rattle.items.specs.declared.Span.{Span}
use Rattle.values.specs.declared.walk.Frame.{Frame}
use Rattle.values.specs.declared.walk.Frame.TheVariants.{Struct, Array, Variant}
use Rattle.values.specs.declared.walk.Stands.{Stands}
use Rattle.values.specs.declared.walk.Stands.TheVariants.{AtValue, PastValue}
use Rattle.values.specs.Values.{lies_as, within}
use Rattle.values.specs.Walks.{Around, top, in_struct, in_array, in_variant, depth_of, limit, Stacked, rank}

-- the code at which an element begins
pub at_code : (bytes : List ℕ) (e : Element) (r : List ℕ) (s : ℕ) → spell_element e r ≡ drop s bytes → s < length bytes
at_code bytes e r s h = omega (arith, element_longer e r, ap length h, length-drop s bytes)

pub with_code : (bytes : List ℕ) (e : Element) (r : List ℕ) (s : ℕ) → spell_element e r ≡ drop s bytes → spell_element e r ≡ get_or bytes s 0 ∷ drop (s + 1) bytes
with_code bytes e r s h = h ∙ drop_more bytes s 0 (at_code bytes e r s h)

-- what an element is, by its head, what follows it, and what follows its head
pub data Shape : Head → Element → List ℕ → List ℕ → Type 0 where
  is_basic : {b : Basic} {r : List ℕ} → Shape (head.Basic b) (single (basic b)) r r
  is_variant : {r : List ℕ} → Shape head.Variant (single variant) r r
  is_array : {f : Element} {r : List ℕ} → Shape head.Array (single (array f)) r (spell_element f r)
  is_struct : {t : Tree} {ts : Trees} {r : List ℕ} → Shape head.Struct (single (struct t ts)) r (spell t (spell_all ts (41 ∷ r)))
  is_entry : {j : Basic} {t : Tree} {r : List ℕ} → Shape head.Entry (entry j t) r (spell (basic j) (spell t (125 ∷ r)))

shape : (e : Element) (r : List ℕ) → Shape (head_of_element e) e r (drop 1 (spell_element e r))
shape (single (basic b)) r = is_basic
shape (single variant) r = is_variant
shape (single (array f)) r = is_array
shape (single (struct t ts)) r = is_struct
shape (entry j t) r = is_entry

-- an element that begins with the code of this head
pub head_at : (bytes : List ℕ) (e : Element) (r : List ℕ) (s : ℕ) (h : Head) → spell_element e r ≡ drop s bytes → head_code h ≡ get_or bytes s 0 → head_of_element e ≡ h
head_at bytes e r s h k c = head_once (head_of_element e) h (element_begins e r (drop (s + 1) bytes) (get_or bytes s 0) (with_code bytes e r s k) ∙ sym c)

pub shape_at : (bytes : List ℕ) (e : Element) (r : List ℕ) (s : ℕ) (h : Head) → spell_element e r ≡ drop s bytes → head_code h ≡ get_or bytes s 0 → Shape h e r (drop (s + 1) bytes)
shape_at bytes e r s h k c =
    let front = with_code bytes e r s k in
    subst (λ (x : Head). Shape x e r (drop (s + 1) bytes)) (head_at bytes e r s h k c)
    (subst (λ (xs : List ℕ). Shape (head_of_element e) e r xs) (ap (drop 1) front) (shape e r))

pub at_basic : {e : Element} {b : Basic} {r s : List ℕ} → Shape (head.Basic b) e r s → (lies_as e ≡ basic b) × (r ≡ s)
at_basic is_basic = (refl, refl)

pub at_variant : {e : Element} {r s : List ℕ} → Shape head.Variant e r s → (lies_as e ≡ variant) × (r ≡ s)
at_variant is_variant = (refl, refl)

pub at_array : {e : Element} {r s : List ℕ} → Shape head.Array e r s → (f : Element) × (lies_as e ≡ array f) × (spell_element f r ≡ s)
at_array (is_array {f}) = (f, refl, refl)

-- a struct and a dict entry, with the bracket that closes it
pub record Opens (e : Element) (r s : List ℕ) : Type 0 where
  pub first : Tree
  pub others : Trees
  pub bracket : ℕ
  pub lies : lies_as e ≡ struct first others
  pub closing : (bracket ≡ 41) ⊎ (bracket ≡ 125)
  pub spells : spell first (spell_all others (bracket ∷ r)) ≡ s

pub at_struct : {e : Element} {r s : List ℕ} → Shape head.Struct e r s → Opens e r s
at_struct (is_struct {t} {ts}) = record { first = t; others = ts; bracket = 41; lies = refl; closing = inl refl; spells = refl }

pub at_entry : {e : Element} {r s : List ℕ} → Shape head.Entry e r s → Opens e r s
at_entry (is_entry {j} {t}) = record { first = basic j; others = more t none; bracket = 125; lies = refl; closing = inr refl; spells = refl }

module _ (bytes : List ℕ) (ce e : ℕ) where
  pub limit_le : (k : Around) (fs : List Frame) (xs : List ℕ) → Stacked bytes ce e k fs xs → limit e k ≤ e
  limit_le (top ts) fs xs h = omega arith
  limit_le (in_struct ts k) fs xs h = limit_le k h.0 h.3 h.6
  limit_le (in_array f q k) fs xs h = omega (arith, h.3, limit_le k h.0 xs h.5)
  limit_le (in_variant k) fs xs h = limit_le k h.0 (drop h.1 bytes) h.4

  pub depth_is : (k : Around) (fs : List Frame) (xs : List ℕ) → Stacked bytes ce e k fs xs → length fs ≡ depth_of k
  depth_is (top ts) fs xs h = ap length h.0
  depth_is (in_struct ts k) fs xs h = ap length h.1 ∙ length-append h.0 (Struct ∷ []) ∙ ap (λ (n : ℕ). n + 1) (depth_is k h.0 h.3 h.6)
  depth_is (in_array f q k) fs xs h = ap length h.2 ∙ length-append h.0 (Array h.1 (limit e k) ∷ []) ∙ ap (λ (n : ℕ). n + 1) (depth_is k h.0 xs h.5)
  depth_is (in_variant k) fs xs h = ap length h.2 ∙ length-append h.0 (Variant h.1 ∷ []) ∙ ap (λ (n : ℕ). n + 1) (depth_is k h.0 (drop h.1 bytes) h.4)

-- the frame on top, and those below it
module _ (gs fs : List Frame) (f : Frame) (h : fs ≡ gs ++ f ∷ []) where
  pub top_is : slice_get fs (length fs - 1) ≡ Some f
  top_is =
      let l = ap length h ∙ length-append gs (f ∷ []) in
      slice_get-get_or fs (length fs - 1) f (omega arith) ∙ ap Some (grind (arith, common_steps))

  pub below_is : take (length fs - 1) fs ≡ gs
  below_is = grind (arith, common_steps)

-- the types are at an end where their codes are
pub all_end : (ts : Trees) (r : List ℕ) → length (spell_all ts r) ≡ length r → ts ≡ none
all_end none r e = refl
all_end (more t ts) r e = absurd (omega (arith, longer t (spell_all ts r), all_longer ts r))

-- what falls: a byte more, a code more at the same byte or later, the end of a value taken up, a frame less
module _ (len p d s : ℕ) (short : len < 2 ^ 64) where
  pub fall_at : (q m z : ℕ) (b c : Stands) → p < q → q ≤ len → m ≤ 65 → 2 ^ 66 * (len - q) + rank c m (len - z) < 2 ^ 66 * (len - p) + rank b d (len - s)
  fall_at q m z b AtValue h1 h2 h3 = omega arith
  fall_at q m z b PastValue h1 h2 h3 = omega arith

  pub fall_code : (q m z : ℕ) (b : Stands) → b ≡ AtValue → p ≤ q → s < z → s < len → 2 ^ 66 * (len - q) + rank b m (len - z) < 2 ^ 66 * (len - p) + rank b d (len - s)
  fall_code q m z AtValue e h1 h2 h3 = omega arith
  fall_code q m z PastValue e h1 h2 h3 = absurd (cc)

  pub fall_past : (z m : ℕ) (b : Stands) → b ≡ PastValue → 2 ^ 66 * (len - p) + rank AtValue m (len - z) < 2 ^ 66 * (len - p) + rank b d (len - s)
  fall_past z m PastValue e = omega arith
  fall_past z m AtValue e = absurd (cc)

  pub fall_pop : (m z : ℕ) (b : Stands) → b ≡ PastValue → m < d → 2 ^ 66 * (len - p) + rank b m (len - z) < 2 ^ 66 * (len - p) + rank b d (len - s)
  fall_pop m z PastValue e h = omega arith
  fall_pop m z AtValue e h = absurd (cc)

-- the codes of a span, and what follows them in the message
pub in_message : (bytes : List ℕ) (codes : Span) → codes.from ≤ codes.to → (ts : Trees) → spell_all ts [] ≡ within bytes codes → spell_all ts (drop codes.to bytes) ≡ drop codes.from bytes
in_message bytes codes l ts h =
    let from = codes.from in
    let to = codes.to in
    let n = to - from in
    let m : to ≡ from + n = omega arith in
    all_appended ts [] (drop to bytes)
    ∙ ap (λ (xs : List ℕ). xs ++ drop to bytes) h
    ∙ ap (λ (k : ℕ). take n (drop from bytes) ++ drop k bytes) m
    ∙ ap (λ (xs : List ℕ). take n (drop from bytes) ++ xs) (sym (drop-drop n from bytes))
    ∙ take-append-drop n (drop from bytes)

-- the type of a variant, with what follows it in the message
pub spelled : (bytes : List ℕ) (end p n : ℕ) → p + 1 + n ≤ end → (h : Single (take n (drop (p + 1) (take end bytes)))) → spell h.type (drop n (drop (p + 1) bytes)) ≡ drop (p + 1) bytes
spelled bytes end p n l h =
    let m = end - (p + 1) in
    let e : end ≡ (p + 1) + m = omega arith in
    let area : drop (p + 1) (take end bytes) ≡ take m (drop (p + 1) bytes) = ap (λ (k : ℕ). drop (p + 1) (take k bytes)) e ∙ drop-take (p + 1) m bytes in
    let codes : take n (drop (p + 1) (take end bytes)) ≡ take n (drop (p + 1) bytes) = ap (take n) area ∙ take-take n m (drop (p + 1) bytes) (omega arith) in
    appended h.type [] (drop n (drop (p + 1) bytes))
    ∙ ap (λ (xs : List ℕ). xs ++ drop n (drop (p + 1) bytes)) (h.spells ∙ codes)
    ∙ take-append-drop n (drop (p + 1) bytes)
