-- Each step from a value on keeps what a walk owes.
use Rattle.std.proofs.Common.{◌≡◌, ℕ, ◌+◌, ◌^◌, ◌<◌, ◌≤◌, ◌⊎◌, List, [], ◌∷◌, ◌++◌, length, get_or, take, drop, Ok, Err, Result, sym, refl, ap, ◌∙◌, subst, inl, inr, ⊎_elim, arith, length-append}
use Rattle.std.proofs.lemmas.List.{length-take-le}
use Rattle.std.specs.Result.{IsErrAnd}
use Rattle.arrayvec.specs.ArrayVec.{ArrayVec}
use Rattle.signature.specs.declared.codes.Basic.{Basic}
use Rattle.signature.specs.declared.codes.Alignment.{Alignment}
use Rattle.signature.specs.declared.codes.Head.{Head}
use Rattle.signature.specs.declared.codes.Head.TheVariants as head
use Rattle.signature.specs.Codes.{head_code, align}
use Rattle.signature.specs.Trees.{Tree, basic, variant, array, struct, Element, single, spell, spell_element, spell_all, head_of_element, Single}
use Rattle.signature.proofs.Spellings.{element_begins}
use Rattle.items.specs.declared.fault.Flaw.{Flaw}
use Rattle.items.specs.declared.Span.{Span}
use Rattle.items.specs.Faults.{Then}
use Rattle.items.specs.Items.{Leaf, Typed, Opened, Headed, codes_at}
use Rattle.items.proofs.Once.{leaf_moves, typed_moves, opened_moves, headed_moves}
use Rattle.values.specs.declared.walk.Frame.{Frame}
use Rattle.values.specs.declared.walk.Frame.TheVariants.{Struct, Array, Variant}
use Rattle.values.specs.declared.walk.Stands.TheVariants.{AtValue, PastValue}
use Rattle.values.specs.declared.walk.Walk.{Walk}
use Rattle.values.specs.Values.{lies_as, Value, leaf, struct_bad, struct_is, array_bad, array_is, variant_bad, variant_is, Values, goes, fails, Elements, no_more, one_more, bad_one}
use Rattle.values.specs.Walks.{Around, in_struct, in_array, in_variant, depth_of, limit, Owed, at_value, past_value, Rest, Comes, Stacked, Of, Somewhere, AtHead, Went, Moved, Fails, Stepped}
use Rattle.values.proofs.Ties.{at_code, with_code, Shape, shape_at, at_basic, at_variant, at_array, Opens, at_struct, at_entry, limit_le, depth_is, spelled, fall_at, fall_code}

-- `A` and then `B` and then `C`: what joins `A` to `B` joins the three
module _ {X Y Z : Type 0} (A : Result X Flaw → Type 0) (B : X → Result Y Flaw → Type 0) (C : Y → Result Z Flaw → Type 0) (D : Result Y Flaw → Type 0)
    (good : (x : X) (r : Result Y Flaw) → A (Ok x) → B x r → D r) (bad : (f : Flaw) → A (Err f) → D (Err f)) (r : Result Z Flaw) where
  joined_in : (x : X) → A (Ok x) → Then (B x) C r → Then D C r
  joined_in x a (inl h) = inl (h.0, good x (Ok h.0) a h.1, h.2)
  joined_in x a (inr h) = inr (h.0, good x (Err h.0) a h.1, h.2)

  pub joined : Then A (λ x. Then (B x) C) r → Then D C r
  joined (inl h) = joined_in h.0 h.1 h.2
  joined (inr h) = inr (h.0, bad h.0 h.1, h.2)

-- what holds of a value holds of a value that has it for its first part
module _ {Y Z : Type 0} (A D : Result Y Flaw → Type 0) (C : Y → Result Z Flaw → Type 0) (good : (r : Result Y Flaw) → A r → D r) (r : Result Z Flaw) where
  pub carried : Then A C r → Then D C r
  carried (inl h) = inl (h.0, good (Ok h.0) h.1, h.2)
  carried (inr h) = inr (h.0, good (Err h.0) h.1, h.2)

-- a step that a flaw ends
pub stopped : {ordered : List ℕ → List ℕ} {w : Walk} {f : Flaw} (v : Walk) (r : Result (Unit {0}) Flaw) → IsErrAnd r (λ g. g ≡ f) → Fails ordered w f → Stepped ordered w v r
stopped v (Ok x) h k = absurd h
stopped {ordered} {w} v (Err g) h k = subst (Fails ordered w) (sym h) k

-- a walk that stands at a value owes that value
module _ (w : Walk) (value : w.stands ≡ AtValue) where
  by_value : {e : ℕ} (P : Owed → Type 0) → ((i : Element) (k : Around) → Of e (at_value i k) w → P (at_value i k)) → (o : Owed) → Of e o w → P o
  by_value P f (at_value i k) h = f i k h
  by_value P f (past_value k) h = let past = h.tied.0 in absurd (cc)

  pub code_in : Somewhere w → w.code < length w.bytes.now
  code_in s = by_value (λ _. w.code < length w.bytes.now) (λ i k h. at_code w.bytes.now i h.tied.1 w.code h.tied.2) s.owed s.of

  pub no_head : Somewhere w → ((x : Head) → head_code x ≡ get_or w.bytes.now w.code 0 → ⊥) → ⊥
  no_head s ne =
      let b = w.bytes.now in
      by_value
      (λ _. ⊥)
      (λ i k h. ne (head_of_element i) (element_begins i h.tied.1 (drop (w.code + 1) b) (get_or b w.code 0) (with_code b i h.tied.1 w.code h.tied.2)))
      s.owed s.of

  pub end_in : Somewhere w → w.end ≤ length w.bytes.now
  end_in s =
      by_value
      (λ _. w.end ≤ length w.bytes.now)
      (λ i k h. omega (arith, h.limited, h.within.1, limit_le w.bytes.now w.codes_end s.end k w.frames.items h.tied.1 h.tied.3))
      s.owed s.of

module _ (ordered : List ℕ → List ℕ) (w : Walk) where
  abbrev b : List ℕ
  b = w.bytes.now

  abbrev area : List ℕ
  area = take w.end b

  abbrev deep : ℕ
  deep = length w.frames.items

  abbrev V : ℕ → Around → Tree → ℕ → Result ℕ Flaw → Type 0
  V e k t p r = Value ordered b (depth_of k) (limit e k) t p r

  room : w.stands ≡ AtValue → Somewhere w → length area ≡ w.end
  room value here = length-take-le w.end b (end_in w value here)

  module _ {e : ℕ} (i : Element) (k : Around) (h : Of e (at_value i k) w) where
    -- the head of what is to be read
    shaped : (x : Head) → AtHead x w → Shape x i h.tied.1 (drop (w.code + 1) b)
    shaped x s = shape_at b i h.tied.1 w.code x h.tied.2 s.head

    -- from the depth and the end of the walk to those of what is around
    moved : (P : ℕ → ℕ → Type 0) → P deep w.end → P (depth_of k) (limit e k)
    moved P y = subst (λ (m : ℕ). P (depth_of k) m) h.limited (subst (λ (m : ℕ). P m w.end) (depth_is b w.codes_end e k w.frames.items h.tied.1 h.tied.3) y)

    valued : (T : Tree) → lies_as i ≡ T → (r : Result ℕ Flaw) → V e k T w.at r → V e k (lies_as i) w.at r
    valued T same r v = subst (λ (u : Tree). V e k u w.at r) (sym same) v

  -- a basic value
  module _ (c : Basic) (s : AtHead (head.Basic c) w) where
    module _ {e : ℕ} (i : Element) (k : Around) (h : Of e (at_value i k) w) where
      basic_is : (lies_as i ≡ basic c) × (h.tied.1 ≡ drop (w.code + 1) b)
      basic_is = at_basic (shaped i k h (head.Basic c) s)

      basic_value : (r : Result ℕ Flaw) → Leaf area ordered c deep w.at r → V e k (lies_as i) w.at r
      basic_value r l =
          valued i k h (basic c) basic_is.0 r (leaf (moved i k h (λ (d m : ℕ). Leaf (take m b) ordered c d w.at r) l))

    pub basic_fails : (f : Flaw) → Leaf area ordered c deep w.at (Err f) → Fails ordered w f
    basic_fails f l e o h = by_value w s.value (λ o. Comes ordered b e o w.at (Err f)) (λ i k h. inr (f, basic_value i k h (Err f) l, refl)) o h

    module _ (q : ℕ) (l : Leaf area ordered c deep w.at (Ok q)) where
      abbrev basic_taken : Walk
      basic_taken = record w { code = w.code + 1; at = q; stands = PastValue }

      basic_ends : (w.at < q) × (q ≤ w.end)
      basic_ends = let m = leaf_moves area ordered c deep w.at q l in (m.0, omega (arith, m.1, room s.value s.here))

      basic_goes : {e : ℕ} (i : Element) (k : Around) → Of e (at_value i k) w → Went ordered e (at_value i k) w basic_taken
      basic_goes {e} i k h =
          let lt = at_code b i h.tied.1 w.code h.tied.2 in
          record {
            same = (refl, refl);
            next = past_value k;
            of = record {
              within = h.within;
              limited = h.limited;
              place = basic_ends.1;
              tied = (refl, omega (arith, lt), subst (λ (xs : List ℕ). Stacked b w.codes_end e k w.frames.items xs) (basic_is i k h).1 h.tied.3);
            };
            comes = λ r z. inl (q, basic_value i k h (Ok q) l, z);
          }

      pub basic_moves : length b < 2 ^ 64 → deep ≤ 65 → Moved ordered w basic_taken
      basic_moves short few = record {
        goes = λ e o h. by_value w s.value (λ o. Went ordered e o w basic_taken) basic_goes o h;
        falls = fall_at (length b) w.at deep w.code short q deep (w.code + 1) w.stands PastValue basic_ends.0 (omega (arith, basic_ends.1, end_in w s.value s.here)) few;
      }

  -- a struct or a dict entry
  module _ (s : AtHead head.Struct w ⊎ AtHead head.Entry w) where
    value : w.stands ≡ AtValue
    value = ⊎_elim (λ a. a.value) (λ a. a.value) s

    here : Somewhere w
    here = ⊎_elim (λ a. a.here) (λ a. a.here) s

    module _ {e : ℕ} (i : Element) (k : Around) (h : Of e (at_value i k) w) where
      opens : Opens i h.tied.1 (drop (w.code + 1) b)
      opens = ⊎_elim (λ a. at_struct (shaped i k h head.Struct a)) (λ a. at_entry (shaped i k h head.Entry a)) s

      opened : (r : Result ℕ Flaw) → Opened area deep w.at r → Opened (take (limit e k) b) (depth_of k) w.at r
      opened r l = moved i k h (λ (d m : ℕ). Opened (take m b) d w.at r) l

    pub struct_fails : (f : Flaw) → Opened area deep w.at (Err f) → Fails ordered w f
    struct_fails f p e o h =
        by_value w value
        (λ o. Comes ordered b e o w.at (Err f))
        (λ i k h. let v = opens i k h in inr (f, valued i k h (struct v.first v.others) v.lies (Err f) (struct_bad (opened i k h (Err f) p)), refl))
        o h

    module _ (q : ℕ) (p : Opened area deep w.at (Ok q)) (fr : ArrayVec Frame) (pushed : fr.items ≡ w.frames.items ++ Struct ∷ []) where
      abbrev struct_begun : Walk
      struct_begun = record w { frames = fr; code = w.code + 1; at = q }

      struct_ends : (w.at ≤ q) × (q ≤ w.end)
      struct_ends = let m = opened_moves area deep w.at q p in (m.0, omega (arith, m.1, room value here))

      struct_goes : {e : ℕ} (i : Element) (k : Around) → Of e (at_value i k) w → Went ordered e (at_value i k) w struct_begun
      struct_goes {e} i k h =
          let ys = h.tied.1 in
          let v = opens i k h in
          let d = depth_of k in
          record {
            same = (refl, refl);
            next = at_value (single v.first) (in_struct v.others k);
            of = record {
              within = h.within;
              limited = h.limited;
              place = struct_ends.1;
              tied = (value, spell_all v.others (v.bracket ∷ ys), v.spells, (w.frames.items, pushed, v.bracket, ys, v.closing, refl, h.tied.3));
            };
            comes = λ r z. joined
                (Value ordered b (d + 1) (limit e k) v.first q) (λ y. Values ordered b (d + 1) (limit e k) v.others y) (Rest ordered b e k)
                (V e k (lies_as i) w.at)
                (λ y t a u. valued i k h (struct v.first v.others) v.lies t (struct_is q (opened i k h (Ok q) p) (goes y a u)))
                (λ f a. valued i k h (struct v.first v.others) v.lies (Err f) (struct_is q (opened i k h (Ok q) p) (fails a)))
                r z;
          }

      pub struct_moves : length b < 2 ^ 64 → Moved ordered w struct_begun
      struct_moves short = record {
        goes = λ e o h. by_value w value (λ o. Went ordered e o w struct_begun) struct_goes o h;
        falls = fall_code (length b) w.at deep w.code short q (length fr.items) (w.code + 1) w.stands value struct_ends.0 (omega arith) (code_in w value here);
      }

  -- an array
  module _ (s : AtHead head.Array w) where
    element : {e : ℕ} (i : Element) (k : Around) (h : Of e (at_value i k) w) → (f : Element) × (lies_as i ≡ array f) × (spell_element f h.tied.1 ≡ drop (w.code + 1) b)
    element i k h = at_array (shaped i k h head.Array s)

    pub element_in : w.code + 1 < length b
    element_in =
        by_value w s.value
        (λ _. w.code + 1 < length b)
        (λ i k h. let j = element i k h in at_code b j.0 h.tied.1 (w.code + 1) j.2)
        s.here.owed s.here.of

    module _ (a : Alignment) (al : (x : Head) → head_code x ≡ get_or b (w.code + 1) 0 → a ≡ align x) where
      spread : {e : ℕ} (i : Element) (k : Around) (h : Of e (at_value i k) w) (r : Result Span Flaw) → Headed area ordered a deep w.at r
          → Headed (take (limit e k) b) ordered (align (head_of_element (element i k h).0)) (depth_of k) w.at r
      spread {e} i k h r p =
          let j = element i k h in
          let same = al (head_of_element j.0) (element_begins j.0 h.tied.1 (drop (w.code + 1 + 1) b) (get_or b (w.code + 1) 0) (with_code b j.0 h.tied.1 (w.code + 1) j.2)) in
          subst (λ (z : Alignment). Headed (take (limit e k) b) ordered z (depth_of k) w.at r) same (moved i k h (λ (d m : ℕ). Headed (take m b) ordered a d w.at r) p)

      pub array_fails : (f : Flaw) → Headed area ordered a deep w.at (Err f) → Fails ordered w f
      array_fails f p e o h =
          by_value w s.value
          (λ o. Comes ordered b e o w.at (Err f))
          (λ i k h. let j = element i k h in inr (f, valued i k h (array j.0) j.1 (Err f) (array_bad (spread i k h (Err f) p)), refl))
          o h

      module _ (t : Span) (p : Headed area ordered a deep w.at (Ok t)) where
        array_ends : (w.at < t.from) × (t.from ≤ t.to) × (t.to ≤ w.end) × (deep ≤ 64)
        array_ends = let m = headed_moves area ordered a deep w.at t p in (m.0, m.1, omega (arith, m.2, room s.value s.here), m.3)

        module _ (fr : ArrayVec Frame) (pushed : fr.items ≡ w.frames.items ++ Array (w.code + 1) w.end ∷ []) where
          abbrev array_begun : Walk
          array_begun = record w { frames = fr; code = w.code + 1; at = t.from; end = t.to }

          array_goes : t.from < t.to → {e : ℕ} (i : Element) (k : Around) → Of e (at_value i k) w → Went ordered e (at_value i k) w array_begun
          array_goes lt {e} i k h =
              let ys = h.tied.1 in
              let j = element i k h in
              let d = depth_of k in
              let hd = spread i k h (Ok t) p in
              record {
                same = (refl, refl);
                next = at_value j.0 (in_array j.0 t.to k);
                of = record {
                  within = h.within;
                  limited = refl;
                  place = omega (arith, lt);
                  tied = (
                    s.value,
                    ys,
                    j.2,
                    (w.frames.items, w.code + 1, pushed ∙ ap (λ (n : ℕ). w.frames.items ++ Array (w.code + 1) n ∷ []) h.limited, omega (arith, array_ends.2, h.limited), j.2, h.tied.3),
                  );
                };
                comes = λ r z. joined
                    (Value ordered b (d + 1) t.to (lies_as j.0) t.from) (λ y. Elements ordered b (d + 1) t.to j.0 y) (Rest ordered b e k)
                    (V e k (lies_as i) w.at)
                    (λ y u a₁ a₂. valued i k h (array j.0) j.1 u (array_is t hd (one_more y lt a₁ a₂)))
                    (λ f a₁. valued i k h (array j.0) j.1 (Err f) (array_is t hd (bad_one lt a₁)))
                    r z;
              }

          pub array_moves : t.from < t.to → length b < 2 ^ 64 → Moved ordered w array_begun
          array_moves lt short = record {
            goes = λ e o h. by_value w s.value (λ o. Went ordered e o w array_begun) (array_goes lt) o h;
            falls = fall_at (length b) w.at deep w.code short t.from (length fr.items) (w.code + 1) w.stands w.stands array_ends.0
                (omega (arith, array_ends.1, array_ends.2, end_in w s.value s.here)) (omega (arith, array_ends.3, ap length pushed, length-append w.frames.items (Array (w.code + 1) w.end ∷ [])));
          }

        module _ (z : ℕ) (zl : z ≤ length b) (ze : (j : Element) (rest : List ℕ) → spell_element j rest ≡ drop (w.code + 1) b → drop z b ≡ rest) where
          abbrev array_passed : Walk
          array_passed = record w { code = z; at = t.from; stands = PastValue }

          array_none : t.from ≡ t.to → {e : ℕ} (i : Element) (k : Around) → Of e (at_value i k) w → Went ordered e (at_value i k) w array_passed
          array_none eq {e} i k h =
              let ys = h.tied.1 in
              let j = element i k h in
              let els : Elements ordered b (depth_of k + 1) t.to j.0 t.from (Ok t.from) = no_more eq in
              record {
                same = (refl, refl);
                next = past_value k;
                of = record {
                  within = h.within;
                  limited = h.limited;
                  place = omega (arith, eq, array_ends.2);
                  tied = (refl, zl, subst (λ (xs : List ℕ). Stacked b w.codes_end e k w.frames.items xs) (sym (ze j.0 ys j.2)) h.tied.3);
                };
                comes = λ r y. inl (t.from, valued i k h (array j.0) j.1 (Ok t.from) (array_is t (spread i k h (Ok t) p) els), y);
              }

          pub array_ended : t.to ≤ t.from → length b < 2 ^ 64 → Moved ordered w array_passed
          array_ended le short =
              let eq : t.from ≡ t.to = omega (arith, array_ends.1, le) in
              record {
                goes = λ e o h. by_value w s.value (λ o. Went ordered e o w array_passed) (array_none eq) o h;
                falls = fall_at (length b) w.at deep w.code short t.from deep z w.stands PastValue array_ends.0
                    (omega (arith, array_ends.1, array_ends.2, end_in w s.value s.here)) (omega (arith, array_ends.3));
              }

  -- a variant
  module _ (s : AtHead head.Variant w) where
    variant_there : {e : ℕ} (i : Element) (k : Around) (h : Of e (at_value i k) w) → (lies_as i ≡ variant) × (h.tied.1 ≡ drop (w.code + 1) b)
    variant_there i k h = at_variant (shaped i k h head.Variant s)

    pub variant_fails : (f : Flaw) → Typed area deep w.at (Err f) → Fails ordered w f
    variant_fails f p e o h =
        by_value w s.value
        (λ o. Comes ordered b e o w.at (Err f))
        (λ i k h. inr (f, valued i k h variant (variant_there i k h).0 (Err f) (variant_bad (moved i k h (λ (d m : ℕ). Typed (take m b) d w.at (Err f)) p)), refl))
        o h

    module _ (q : ℕ) (p : Typed area deep w.at (Ok q)) (fr : ArrayVec Frame) (pushed : fr.items ≡ w.frames.items ++ Variant (w.code + 1) ∷ []) where
      abbrev variant_begun : Walk
      variant_begun = record w { frames = fr; code = w.at + 1; at = q }

      variant_ends : (w.at + 2 ≤ q) × (q ≤ w.end) × (q ≡ w.at + 1 + get_or area w.at 0 + 1) × Single (codes_at area w.at) × (deep ≤ 64)
      variant_ends = let m = typed_moves area deep w.at q p in (m.0, omega (arith, m.1, room s.value s.here), m.2, m.3, m.4)

      -- its type, with what follows it in the message
      type_there : spell variant_ends.3.type (drop (get_or area w.at 0) (drop (w.at + 1) b)) ≡ drop (w.at + 1) b
      type_there = spelled b w.end w.at (get_or area w.at 0) (omega (arith, variant_ends.1, variant_ends.2)) variant_ends.3

      variant_goes : {e : ℕ} (i : Element) (k : Around) → Of e (at_value i k) w → Went ordered e (at_value i k) w variant_begun
      variant_goes {e} i k h =
          let one = variant_ends.3 in
          let v = variant_there i k h in
          let lt = at_code b i h.tied.1 w.code h.tied.2 in
          record {
            same = (refl, refl);
            next = at_value (single one.type) (in_variant k);
            of = record {
              within = h.within;
              limited = h.limited;
              place = variant_ends.1;
              tied = (
                s.value,
                drop (get_or area w.at 0) (drop (w.at + 1) b),
                type_there,
                (w.frames.items, w.code + 1, pushed, omega (arith, lt), subst (λ (xs : List ℕ). Stacked b w.codes_end e k w.frames.items xs) v.1 h.tied.3),
              );
            };
            comes = λ r z. carried
                (Value ordered b (depth_of k + 1) (limit e k) one.type q) (V e k (lies_as i) w.at) (Rest ordered b e k)
                (λ y a. valued i k h variant v.0 y
                (variant_is q (moved i k h (λ (d m : ℕ). Typed (take m b) d w.at (Ok q)) p) (subst (λ (m : ℕ). spell one.type [] ≡ codes_at (take m b) w.at) h.limited one.spells) a))
                r z;
          }

      pub variant_moves : length b < 2 ^ 64 → Moved ordered w variant_begun
      variant_moves short = record {
        goes = λ e o h. by_value w s.value (λ o. Went ordered e o w variant_begun) variant_goes o h;
        falls = fall_at (length b) w.at deep w.code short q (length fr.items) (w.at + 1) w.stands w.stands (omega (arith, variant_ends.0))
            (omega (arith, variant_ends.1, end_in w s.value s.here)) (omega (arith, variant_ends.4, ap length pushed, length-append w.frames.items (Variant (w.code + 1) ∷ [])));
      }
