-- What the items of a field tell.
use Rattle.std.proofs.Common.{◌≡◌, ℕ, ◌+◌, ◌-◌, ◌<◌, ◌≤◌, List, [], length, get_or, take, drop, Some, None, Ok, Option, Result, sym, refl, ap, ◌∙◌, subst, inl, inr, arith, IsTrue}
use Rattle.std.proofs.lemmas.Bool.{false≢true}
use Rattle.std.proofs.lemmas.List.{drop-take, take-take, length-take-le}
use Rattle.signature.specs.declared.codes.Alignment.{Alignment}
use Rattle.signature.specs.declared.codes.Alignment.TheVariants.{Four, Eight}
use Rattle.signature.specs.declared.codes.Basic.{Basic}
use Rattle.signature.specs.declared.codes.Basic.TheVariants as basics
use Rattle.signature.specs.Codes.{step}
use Rattle.signature.specs.Trees.{Tree, basic, none, more, spell, Single, Signature}
use Rattle.signature.proofs.Spellings.{once}
use Rattle.signature.proofs.Fronts.{single_signature}
use Rattle.items.specs.declared.fault.Flaw.{Flaw}
use Rattle.items.specs.Items.{aligned, Pad, Typed, Leaf, codes_at, codes_end}
use Rattle.items.proofs.Once.{ok_inj, never, typed_moves, pad_moves}
use Rattle.values.specs.Values.{Value, leaf, within, Spelled, Read}
use Rattle.values.proofs.Moves.{one_value, value_onward}
use Rattle.fields.specs.declared.known.Field.{Field}
use Rattle.fields.specs.declared.known.Field.TheVariants.{Path, Interface, Member, ErrorName, ReplySerial, Destination, Sender, Signature as Types}
use Rattle.fields.specs.declared.Fields.{Fields}
use Rattle.fields.specs.Known.{known, field_type}
use Rattle.fields.specs.Headers.{Own, start, noted, Owned, Kinded, Fitting, Valued, AfterCode, AfterPadding, OneField}
use Rattle.fields.specs.Words.{has_word}

-- the codes of a type, as a part of the area
pub codes_part : (xs : List ℕ) (p q n : ℕ) → q ≡ p + 1 + n + 1 → take (q - 1 - (p + 1)) (drop (p + 1) xs) ≡ take n (drop (p + 1) xs)
codes_part xs p q n e = let k : q - 1 - (p + 1) ≡ n = omega arith in ap (λ (m : ℕ). take m (drop (p + 1) xs)) k

-- a type that is well
module _ (area : List ℕ) (o : Option Field) (p q : ℕ) where
  owned_tells : (z : ℕ) → Owned area o p z (Ok q) → (z ≡ q) × Own o (codes_at area p)
  owned_tells z (inl h) = (sym (ok_inj q z h.1), h.0)
  owned_tells z (inr h) = never q _ h.1

  pub kinded_tells : Kinded area o p (Ok q) → Typed area 0 p (Ok q) × Own o (codes_at area p)
  kinded_tells (inl h) = let k = owned_tells h.0 h.2 in (subst (λ (z : ℕ). Typed area 0 p (Ok z)) k.0 h.1, k.1)
  kinded_tells (inr h) = never q h.0 h.2

-- the same codes in the area and in the message
pub same_codes : (bytes : List ℕ) (end p n : ℕ) → p + 1 + n ≤ end → take n (drop (p + 1) (take end bytes)) ≡ take n (drop (p + 1) bytes)
same_codes bytes end p n l =
    let m = end - (p + 1) in
    let e : end ≡ (p + 1) + m = omega arith in
    ap (take n) (ap (λ (k : ℕ). drop (p + 1) (take k bytes)) e ∙ drop-take (p + 1) m bytes) ∙ take-take n m (drop (p + 1) bytes) (omega arith)

-- a value of the type of a known field
pub leaf_of : {ordered : List ℕ → List ℕ} {bytes : List ℕ} {around end p : ℕ} {b : Basic} {r : Result ℕ Flaw} → Value ordered bytes around end (basic b) p r → Leaf (take end bytes) ordered b around p r
leaf_of (leaf h) = h

pub own_leaf : {ordered : List ℕ → List ℕ} {bytes : List ℕ} {end p : ℕ} {r : Result ℕ Flaw} (f : Field) (codes : List ℕ) (t : Tree) → spell t [] ≡ codes → Own (Some f) codes → Value ordered bytes 0 end t p r
    → Leaf (take end bytes) ordered (field_type f) 0 p r
own_leaf {ordered} {bytes} {end} {p} {r} f codes t spells own v =
    leaf_of (subst (λ (x : Tree). Value ordered bytes 0 end x p r) (once t (basic (field_type f)) [] [] (spells ∙ own)).0 v)

module _ (ordered : List ℕ → List ℕ) (bytes : List ℕ) (end : ℕ) (inside : end ≤ length bytes) (o : Option Field) (p q : ℕ) (typed : Kinded (take end bytes) o p (Ok q)) where
  moves : (p + 2 ≤ q) × (q ≤ length (take end bytes)) × (q ≡ codes_end (take end bytes) p) × Single (codes_at (take end bytes) p) × (0 ≤ 64)
  moves = typed_moves (take end bytes) 0 p q (kinded_tells (take end bytes) o p q typed).0

  pub type_there : Single (codes_at (take end bytes) p)
  type_there = moves.3

  pub above : (p + 2 ≤ q) × (q ≤ end)
  above = (moves.0, omega (arith, moves.1, length-take-le end bytes inside))

  part_is : within bytes (record { from = p + 1; to = q - 1 }) ≡ codes_at (take end bytes) p
  part_is =
      let n = get_or (take end bytes) p 0 in
      codes_part bytes p q n moves.2 ∙ sym (same_codes bytes end p n (omega (arith, moves.2, above.1)))

  pub spelled : Spelled bytes (record { from = p + 1; to = q - 1 })
  spelled = record {
    order = omega (arith, above.0);
    inside = omega (arith, above.0, above.1);
    signature = subst Signature (sym part_is) (single_signature (codes_at (take end bytes) p) type_there);
  }

  -- what is read of the value is a value of that type
  pub valued : (r : Result ℕ Flaw) → Read ordered bytes (record { from = p + 1; to = q - 1 }) q end r → Value ordered bytes 0 end type_there.type q r
  valued r (inr h) = absurd (h.0 (above.1, inside))
  valued r (inl (l, inr h)) = absurd (h.0 spelled)
  valued r (inl (l, inl h)) = one_value (h.1 (more type_there.type none) (type_there.spells ∙ sym part_is))

-- a text or a number of 32 bits that is well has its first four bytes
module _ (ordered : List ℕ → List ℕ) (area : List ℕ) where
  pub pad_is : (a : Alignment) (p q : ℕ) → Pad area a p (Ok q) → q ≡ aligned (step a) p
  pad_is a p q (inl (h, inl k)) = ok_inj q (aligned (step a) p) k.1
  pad_is a p q (inl (h, inr k)) = never q _ k.1
  pad_is a p q (inr h) = never q _ h.1

  text_word : (p q : ℕ) → Leaf area ordered basics.Text 0 p (Ok q) → aligned 4 p + 4 ≤ length area
  text_word p q (inl (x, pad, inl h)) = omega (arith, h.0, pad_is Four p x pad)
  text_word p q (inl (x, pad, inr h)) = never q _ h.1
  text_word p q (inr h) = never q h.0 h.2

  serial_word : (p q : ℕ) → Leaf area ordered basics.Uint32 0 p (Ok q) → aligned 4 p + 4 ≤ length area
  serial_word p q (inl (x, pad, inl h)) = omega (arith, h.0, pad_is Four p x pad)
  serial_word p q (inl (x, pad, inr h)) = never q _ h.1
  serial_word p q (inr h) = never q h.0 h.2

  leaf_word : (f : Field) (p q : ℕ) → Leaf area ordered (field_type f) 0 p (Ok q) → IsTrue (has_word (Some f)) → start (Some f) p + 4 ≤ length area
  leaf_word Path p q h w = absurd (false≢true w)
  leaf_word Interface p q h w = text_word p q h
  leaf_word Member p q h w = text_word p q h
  leaf_word ErrorName p q h w = text_word p q h
  leaf_word ReplySerial p q h w = serial_word p q h
  leaf_word Destination p q h w = text_word p q h
  leaf_word Sender p q h w = text_word p q h
  leaf_word Types p q h w = absurd (false≢true w)

pub value_word : (ordered : List ℕ → List ℕ) (bytes : List ℕ) (end : ℕ) (o : Option Field) (codes : List ℕ) (t : Tree) (p q : ℕ) → spell t [] ≡ codes → Own o codes → Value ordered bytes 0 end t p (Ok q)
    → IsTrue (has_word o) → start o p + 4 ≤ length (take end bytes)
value_word ordered bytes end None codes t p q spells own v w = absurd (false≢true w)
value_word ordered bytes end (Some f) codes t p q spells own v w = leaf_word ordered (take end bytes) f p q (own_leaf f codes t spells own v) w

-- each field takes some bytes
module _ (ordered : List ℕ → List ℕ) (bytes : List ℕ) (end : ℕ) (s t : Fields) where
  noted_at : (o : Option Field) (p q : ℕ) → (noted s o p q).at ≡ q
  noted_at None p q = refl
  noted_at (Some f) p q = refl

  fitting_on : (o : Option Field) (p q : ℕ) → Fitting ordered (take end bytes) s o p q (Ok t) → t.at ≡ q
  fitting_on o p q (inl h) = ap (λ (x : Fields). x.at) (ok_inj t (noted s o p q) h.1) ∙ noted_at o p q
  fitting_on o p q (inr h) = never t _ h.1

  valued_on : (o : Option Field) (k p : ℕ) → Valued ordered bytes end s o k p (Ok t) → p ≤ t.at
  valued_on o k p (type, spells, inl h) = omega (arith, value_onward ordered bytes h.1, fitting_on o (start o p) h.0 h.2)
  valued_on o k p (type, spells, inr h) = never t h.0 h.2

  after_code_on : (p c : ℕ) → AfterCode ordered bytes end s p c (Ok t) → p < t.at
  after_code_on p c (inl h) =
      let typed = (kinded_tells (take end bytes) (known c) p h.0 h.1).0 in
      omega (arith, valued_on (known c) p h.0 h.2, (typed_moves (take end bytes) 0 p h.0 typed).0)
  after_code_on p c (inr h) = never t h.0 h.2

  after_padding_on : (p : ℕ) → AfterPadding ordered bytes end s p (Ok t) → p < t.at
  after_padding_on p (inl h) = omega (arith, after_code_on (p + 1) h.0 h.2)
  after_padding_on p (inr h) = never t h.0 h.2

  pub one_on : OneField ordered bytes end s (Ok t) → s.at < t.at
  one_on (inl h) = omega (arith, after_padding_on h.0 h.2, (pad_moves (take end bytes) Eight s.at h.0 h.1).0)
  one_on (inr h) = never t h.0 h.2
