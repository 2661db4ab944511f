-- Each step past a value keeps what a walk owes.
use Rattle.std.proofs.Common.{◌≡◌, ℕ, ◌+◌, ◌-◌, ◌^◌, ◌<◌, ◌≤◌, ◌⊎◌, List, ◌∷◌, [], ◌++◌, length, get_or, take, drop, Some, None, Option, Ok, Result, sym, refl, ap, ◌∙◌, subst, inl, inr, ⊎_elim, arith, length-drop, length-take}
use mathlib.Core.List.{head-eq_of_cons-eq, tail-eq_of_cons-eq}
use Rattle.std.specs.List.{slice_get}
use Rattle.std.proofs.lemmas.List.{drop_more}
use Rattle.std.proofs.lemmas.Option.{slice_get_within}
use Rattle.arrayvec.specs.ArrayVec.{ArrayVec}
use Rattle.signature.specs.Trees.{Tree, Element, single, Trees, none, more, spell, spell_all}
use Rattle.signature.proofs.Spellings.{no_close, no_end, all_longer}
use Rattle.items.specs.declared.fault.Flaw.{Flaw}
use Rattle.items.specs.Faults.{Then}
use Rattle.values.specs.declared.walk.Frame.{Frame}
use Rattle.values.specs.declared.walk.Frame.TheVariants.{Struct, Array, Variant}
use Rattle.values.specs.declared.walk.Stands.TheVariants.{AtValue, PastValue}
use Rattle.values.specs.declared.walk.Walk.{Walk}
use Rattle.values.specs.Values.{lies_as, Value, Values, ends, goes, fails, Elements, no_more, one_more, bad_one}
use Rattle.values.specs.Walks.{Around, top, in_struct, in_array, in_variant, depth_of, limit, Owed, at_value, past_value, Rest, Comes, Stacked, Of, Somewhere, innermost, Done, Went, Moved, weight}
use Rattle.values.proofs.Ties.{all_end, top_is, below_is, fall_past, fall_pop}
use Rattle.values.proofs.Steps.{joined}

module _ (w : Walk) (past : w.stands ≡ PastValue) where
  none_on_top : w.frames.items ≡ [] → innermost w ≡ None
  none_on_top h = ap (λ (fs : List Frame). slice_get fs (length fs - 1)) h

  module _ (e : ℕ) (P : Owed → Type 0) where
    -- P holds of what is around a walk past a value, if its innermost frame is this one
    abbrev Case : Option Frame → Type 0
    Case None = (ts : Trees) → Of e (past_value (top ts)) w → P (past_value (top ts))
    Case (Some Struct) = (ts : Trees) (k : Around) → Of e (past_value (in_struct ts k)) w → P (past_value (in_struct ts k))
    Case (Some (Array x y)) =
        (i : Element) (q : ℕ) (k : Around) (h : Of e (past_value (in_array i q k)) w) → h.tied.2.1 ≡ x → limit e k ≡ y → P (past_value (in_array i q k))
    Case (Some (Variant x)) = (k : Around) (h : Of e (past_value (in_variant k)) w) → h.tied.2.1 ≡ x → P (past_value (in_variant k))

    by_frame : (f : Option Frame) → innermost w ≡ f → Case f → (o : Owed) → Of e o w → P o
    by_frame f t p (at_value i k) h = let at = h.tied.0 in absurd (cc)
    by_frame f t p (past_value (top ts)) h = subst Case (sym t ∙ none_on_top h.tied.2.0) p ts h
    by_frame f t p (past_value (in_struct ts k)) h = let s = h.tied.2 in subst Case (sym t ∙ top_is s.0 w.frames.items Struct s.1) p ts k h
    by_frame f t p (past_value (in_array i q k)) h =
        let s = h.tied.2 in
        subst Case (sym t ∙ top_is s.0 w.frames.items (Array s.1 (limit e k)) s.2) p i q k h refl refl
    by_frame f t p (past_value (in_variant k)) h = let s = h.tied.2 in subst Case (sym t ∙ top_is s.0 w.frames.items (Variant s.1) s.2) p k h refl

  -- in a struct another code follows
  module _ (t : innermost w ≡ Some Struct) where
    code_in : (ts : Trees) (c : ℕ) (ys : List ℕ) → spell_all ts (c ∷ ys) ≡ drop w.code w.bytes.now → w.code < length w.bytes.now
    code_in ts c ys h = omega (arith, all_longer ts (c ∷ ys), ap length h, length-drop w.code w.bytes.now)

    pub struct_in : Somewhere w → w.code < length w.bytes.now
    struct_in s = by_frame s.end (λ _. w.code < length w.bytes.now) (Some Struct) t (λ ts k h. code_in ts h.tied.2.2 h.tied.2.3 h.tied.2.5) s.owed s.of

module _ (ordered : List ℕ → List ℕ) (w : Walk) (past : w.stands ≡ PastValue) where
  abbrev b : List ℕ
  b = w.bytes.now

  abbrev R : ℕ → Around → ℕ → Result ℕ Flaw → Type 0
  R e = Rest ordered b e

  abbrev turned : Walk
  turned = record w { stands = AtValue }

  taken_up : length b < 2 ^ 64 → (z : ℕ) → weight (record w { code = z; stands = AtValue }) < weight w
  taken_up short z = fall_past (length b) w.at (length w.frames.items) w.code short z (length w.frames.items) w.stands past

  -- with nothing around
  first_value : (e : ℕ) (t : Tree) (ts : Trees) (r : Result ℕ Flaw) → Then (Value ordered b 0 e t w.at) (Values ordered b 0 e ts) r → Values ordered b 0 e (more t ts) w.at r
  first_value e t ts r (inl c) = goes c.0 c.1 c.2
  first_value e t ts r (inr c) = subst (λ (x : Result ℕ Flaw). Values ordered b 0 e (more t ts) w.at x) (sym c.2) (fails c.1)

  top_goes : (Done w → ⊥) → {e : ℕ} (ts : Trees) → Of e (past_value (top ts)) w → Went ordered e (past_value (top ts)) w turned
  top_goes go none h =
      let s = h.tied.2 in
      absurd (go (past, s.0, omega (arith, h.within.0, h.tied.1, ap length s.1, length-drop w.codes_end b, length-drop w.code b)))
  top_goes go {e} (more t ts) h =
      let s = h.tied.2 in
      record {
        same = (refl, refl);
        next = at_value (single t) (top ts);
        of = record { within = h.within; limited = h.limited; place = h.place; tied = (refl, spell_all ts (drop w.codes_end b), s.1, (s.0, refl)) };
        comes = λ r c. first_value e t ts r c;
      }

  pub top_moves : innermost w ≡ None → (Done w → ⊥) → length b < 2 ^ 64 → Moved ordered w turned
  top_moves t go short = record { goes = λ e o h. by_frame w past e (λ o. Went ordered e o w turned) None t (top_goes go) o h; falls = taken_up short w.code }

  -- a struct: its next member
  module _ (t : innermost w ≡ Some Struct) where
    member_goes : (get_or b w.code 0 ≡ 41 → ⊥) → (get_or b w.code 0 ≡ 125 → ⊥) → {e : ℕ} (ts : Trees) (k : Around) → Of e (past_value (in_struct ts k)) w → Went ordered e (past_value (in_struct ts k)) w turned
    member_goes n41 n125 none k h =
        let s = h.tied.2 in
        let c = head-eq_of_cons-eq (s.5 ∙ drop_more b w.code 0 (code_in w past t none s.2 s.3 s.5)) in
        absurd (⊎_elim (λ a. n41 (sym c ∙ a)) (λ a. n125 (sym c ∙ a)) s.4)
    member_goes n41 n125 {e} (more t ts) k h =
        let s = h.tied.2 in
        let d = depth_of k in
        record {
          same = (refl, refl);
          next = at_value (single t) (in_struct ts k);
          of = record {
            within = h.within;
            limited = h.limited;
            place = h.place;
            tied = (refl, spell_all ts (s.2 ∷ s.3), s.5, (s.0, s.1, s.2, s.3, s.4, refl, s.6));
          };
          comes = λ r c. joined
              (Value ordered b (d + 1) (limit e k) t w.at) (λ y. Values ordered b (d + 1) (limit e k) ts y) (R e k)
              (Values ordered b (d + 1) (limit e k) (more t ts) w.at)
              (λ y z a u. goes y a u) (λ f a. fails a) r c;
        }

    pub struct_moves : (get_or b w.code 0 ≡ 41 → ⊥) → (get_or b w.code 0 ≡ 125 → ⊥) → length b < 2 ^ 64 → Moved ordered w turned
    struct_moves n41 n125 short = record { goes = λ e o h. by_frame w past e (λ o. Went ordered e o w turned) (Some Struct) t (member_goes n41 n125) o h; falls = taken_up short w.code }

  -- an array
  module _ (x outer : ℕ) (t : innermost w ≡ Some (Array x outer)) (lt : w.at < w.end) where
    abbrev next_element : Walk
    next_element = record w { code = x; stands = AtValue }

    element_goes : {e : ℕ} (i : Element) (q : ℕ) (k : Around) (h : Of e (past_value (in_array i q k)) w) → h.tied.2.1 ≡ x → limit e k ≡ outer → Went ordered e (past_value (in_array i q k)) w next_element
    element_goes {e} i q k h same oe =
        let s = h.tied.2 in
        let d = depth_of k in
        let pl : w.at < q = omega (arith, h.limited, lt) in
        record {
          same = (refl, refl);
          next = at_value i (in_array i q k);
          of = record {
            within = h.within;
            limited = h.limited;
            place = h.place;
            tied = (refl, drop w.code b, s.4 ∙ ap (λ (y : ℕ). drop y b) same, s);
          };
          comes = λ r c. joined
              (Value ordered b (d + 1) q (lies_as i) w.at) (λ y. Elements ordered b (d + 1) q i y) (R e k)
              (Elements ordered b (d + 1) q i w.at)
              (λ y z a u. one_more y pl a u) (λ f a. bad_one pl a) r c;
        }

    pub array_moves : length b < 2 ^ 64 → Moved ordered w next_element
    array_moves short = record { goes = λ e o h. by_frame w past e (λ o. Went ordered e o w next_element) (Some (Array x outer)) t element_goes o h; falls = taken_up short x }

  -- the end of a container, whose frame is taken off
  module _ (fr : ArrayVec Frame) (popped : fr.items ≡ take (length w.frames.items - 1) w.frames.items) where
    lower : (gs : List Frame) (f : Frame) → w.frames.items ≡ gs ++ f ∷ [] → (P : List Frame → Type 0) → P gs → P fr.items
    lower gs f h P p = subst P (sym (popped ∙ below_is gs w.frames.items f h)) p

    left : length b < 2 ^ 64 → (f : Frame) → innermost w ≡ Some f → (z y : ℕ) → weight (record w { frames = fr; code = z; end = y }) < weight w
    left short f t z y =
        let n = length w.frames.items in
        fall_pop (length b) w.at n w.code short (length fr.items) z w.stands past
        (omega (arith, slice_get_within w.frames.items (n - 1) f t, ap length popped, length-take (n - 1) w.frames.items))

    -- no type begins with what closes a struct
    no_type_closes : (c : ℕ) → (c ≡ 41) ⊎ (c ≡ 125) → (t : Tree) (r s : List ℕ) → spell t r ≡ c ∷ s → ⊥
    no_type_closes c (inl e41) t r s h = no_close t r s (subst (λ (y : ℕ). spell t r ≡ y ∷ s) e41 h)
    no_type_closes c (inr e125) t r s h = no_end t r s (subst (λ (y : ℕ). spell t r ≡ y ∷ s) e125 h)

    module _ (t : innermost w ≡ Some Struct) (closes : (get_or b w.code 0 ≡ 41) ⊎ (get_or b w.code 0 ≡ 125)) where
      abbrev struct_left : Walk
      struct_left = record w { frames = fr; code = w.code + 1 }

      struct_ends : {e : ℕ} (ts : Trees) (k : Around) → Of e (past_value (in_struct ts k)) w → Went ordered e (past_value (in_struct ts k)) w struct_left
      struct_ends {e} none k h =
          let s = h.tied.2 in
          let lt = code_in w past t none s.2 s.3 s.5 in
          let ys = tail-eq_of_cons-eq (s.5 ∙ drop_more b w.code 0 lt) in
          record {
            same = (refl, refl);
            next = past_value k;
            of = record {
              within = h.within;
              limited = h.limited;
              place = h.place;
              tied = (
                past,
                omega (arith, lt),
                lower s.0 Struct s.1 (λ (gs : List Frame). Stacked b w.codes_end e k gs (drop (w.code + 1) b)) (subst (λ (xs : List ℕ). Stacked b w.codes_end e k s.0 xs) ys s.6),
              );
            };
            comes = λ r c. inl (w.at, ends, c);
          }
      struct_ends (more u ts) k h =
          let s = h.tied.2 in
          let lt = code_in w past t (more u ts) s.2 s.3 s.5 in
          absurd (no_type_closes (get_or b w.code 0) closes u (spell_all ts (s.2 ∷ s.3)) (drop (w.code + 1) b) (s.5 ∙ drop_more b w.code 0 lt))

      pub struct_leaves : length b < 2 ^ 64 → Moved ordered w struct_left
      struct_leaves short = record { goes = λ e o h. by_frame w past e (λ o. Went ordered e o w struct_left) (Some Struct) t struct_ends o h; falls = left short Struct t (w.code + 1) w.end }

    module _ (x outer : ℕ) (t : innermost w ≡ Some (Array x outer)) (le : w.end ≤ w.at) where
      abbrev array_left : Walk
      array_left = record w { frames = fr; end = outer }

      array_ends : {e : ℕ} (i : Element) (q : ℕ) (k : Around) (h : Of e (past_value (in_array i q k)) w) → h.tied.2.1 ≡ x → limit e k ≡ outer → Went ordered e (past_value (in_array i q k)) w array_left
      array_ends {e} i q k h same oe =
          let s = h.tied.2 in
          let pe : w.at ≡ q = omega (arith, h.limited, h.place, le) in
          let els : Elements ordered b (depth_of k + 1) q i w.at (Ok w.at) = no_more pe in
          record {
            same = (refl, refl);
            next = past_value k;
            of = record {
              within = h.within;
              limited = sym oe;
              place = omega (arith, pe, oe, s.3);
              tied = (past, h.tied.1, lower s.0 (Array s.1 (limit e k)) s.2 (λ (gs : List Frame). Stacked b w.codes_end e k gs (drop w.code b)) s.5);
            };
            comes = λ r c. inl (w.at, els, c);
          }

      pub array_leaves : length b < 2 ^ 64 → Moved ordered w array_left
      array_leaves short = record { goes = λ e o h. by_frame w past e (λ o. Went ordered e o w array_left) (Some (Array x outer)) t array_ends o h; falls = left short (Array x outer) t w.code outer }

    module _ (x : ℕ) (t : innermost w ≡ Some (Variant x)) where
      abbrev variant_left : Walk
      variant_left = record w { frames = fr; code = x }

      variant_ends : {e : ℕ} (k : Around) (h : Of e (past_value (in_variant k)) w) → h.tied.2.1 ≡ x → Went ordered e (past_value (in_variant k)) w variant_left
      variant_ends {e} k h same =
          let s = h.tied.2 in
          let P : ℕ → Type 0 = λ y. (y ≤ length b) × Stacked b w.codes_end e k s.0 (drop y b) in
          let there = subst P same (s.3, s.4) in
          record {
            same = (refl, refl);
            next = past_value k;
            of = record {
              within = h.within;
              limited = h.limited;
              place = h.place;
              tied = (past, there.0, lower s.0 (Variant s.1) s.2 (λ (gs : List Frame). Stacked b w.codes_end e k gs (drop x b)) there.1);
            };
            comes = λ r c. c;
          }

      pub variant_leaves : length b < 2 ^ 64 → Moved ordered w variant_left
      variant_leaves short = record { goes = λ e o h. by_frame w past e (λ o. Went ordered e o w variant_left) (Some (Variant x)) t variant_ends o h; falls = left short (Variant x) t x w.end }

-- with nothing more to walk, all is well
pub done_comes : (ordered : List ℕ → List ℕ) (w : Walk) → Done w → (e : ℕ) (o : Owed) → Of e o w → Comes ordered w.bytes.now e o w.at (Ok w.at)
done_comes ordered w d e o h =
    let b = w.bytes.now in
    by_frame w d.0 e
    (λ o. Comes ordered b e o w.at (Ok w.at)) None
    (none_on_top w d.0 d.1)
    (λ ts h. let n = all_end ts (drop w.codes_end b) (ap length h.tied.2.1 ∙ ap (λ (m : ℕ). length (drop m b)) d.2) in
    subst (λ (us : Trees). Values ordered b 0 e us w.at (Ok w.at)) (sym n) ends)
    o h
