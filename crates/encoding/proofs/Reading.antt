-- What the items of a message tell where all is well.
use Rattle.std.proofs.lemmas.Grind.{common_steps}
use Rattle.std.proofs.Common.{◌≡◌, ℕ, zero, suc, ◌+◌, ◌-◌, ◌≤◌, Bool, true, false, cond, ◌⊎◌, List, length, replicate, Ok, Err, Result, sym, refl, ◌∙◌, subst, inl, inr, arith}
use Rattle.std.specs.List.{AllByRecursion}
use Rattle.order.specs.Numbers.{Byte}
use Rattle.text.specs.Texts as texts
use Rattle.text.specs.Grammar as names
use Rattle.signature.specs.declared.codes.Alignment.{Alignment}
use Rattle.signature.specs.declared.codes.Alignment.TheVariants.{Four, Eight}
use Rattle.signature.specs.declared.codes.Basic.{Basic}
use Rattle.signature.specs.declared.codes.Basic.TheVariants as basics
use Rattle.signature.specs.Codes.{basic_align}
use Rattle.signature.specs.Trees as types
use Rattle.items.specs.declared.fault.Flaw.{Flaw}
use Rattle.items.specs.declared.Span.{Span}
use Rattle.items.specs.Items.{Pad, Shallow, Fixed, Coded, Opened, Truth, Texted, Pathed, Item, Leaf, Extent, Headed, Zero, codes_at, number_at, text_at, text_end, elements_at}
use Rattle.items.proofs.Once.{ok_inj, never}
use Rattle.encoding.specs.Data.{Number, Written, Content}
use Rattle.encoding.specs.Encodings.{Lies, IsByteOrder, place, anywhere, padded, codes, digits, text, content, counted}
use Rattle.encoding.proofs.Spans.{long, join, zeros}
use Rattle.encoding.proofs.Pieces.{place_above, number_fits, number_there, text_there}

-- a test that was passed, and a step that was made
passed : {X P K : Type 0} (x : X) {f : Flaw} → (P × K) ⊎ ((P → ⊥) × ◌≡◌ {A = Result X Flaw} (Ok x) (Err f)) → P × K
passed x (inl h) = h
passed x {f} (inr h) = never x f h.1

made : {X S : Type 0} (x : X) {E : Flaw → Type 0} → S ⊎ ((f : Flaw) × E f × ◌≡◌ {A = Result X Flaw} (Ok x) (Err f)) → S
made x (inl h) = h
made x (inr h) = never x h.0 h.2

bit : (n : ℕ) → n ≤ 1 → (b : Bool) × (n ≡ cond b 1 0)
bit zero h = (false, refl)
bit (suc zero) h = (true, refl)
bit (suc (suc n)) h = absurd (omega arith)

module _ (area : List ℕ) where
  ending : {p q r : ℕ} {xs : List ℕ} → q ≡ r → Lies area p r xs → Lies area p q xs
  ending {p} {xs = xs} e h = subst (λ (n : ℕ). Lies area p n xs) (sym e) h

  pad_tells : (a : Alignment) (p q : ℕ) → Pad area a p (Ok q) → (q ≡ place a p) × Lies area p (place a p) (replicate (place a p - p) 0)
  pad_tells a p q h =
      let inside = passed q h in
      let clear = passed q inside.1 in
      (ok_inj q (place a p) clear.1, zeros area p (place a p) (place_above a p) inside.0 clear.0)

  shallow_tells : (around p r q : ℕ) → Shallow area around p r (Ok q) → (around ≤ 64) × (q ≡ r)
  shallow_tells around p r q h = grind (arith, common_steps)

  -- the beginning of a struct
  pub opened_tells : (around p q : ℕ) → Opened area around p (Ok q) → (q ≡ place Eight p) × Lies area p (place Eight p) (replicate (place Eight p - p) 0) × (around ≤ 64)
  opened_tells around p q h =
      let steps = made q h in
      let pad = pad_tells Eight p steps.0 steps.1 in
      let few = shallow_tells around steps.0 steps.0 q steps.2 in
      (few.1 ∙ pad.0, pad.1, few.0)

  -- a signature, and the type of a variant
  pub coded_tells : (Valid : List ℕ → Type 0) (around p q : ℕ) → Coded area Valid around p (Ok q) → Valid (codes_at area p) × Lies area p q (codes (codes_at area p)) × (around ≤ 64)
  coded_tells Valid around p q h = grind (arith, common_steps)

  module _ (ordered : List ℕ → List ℕ) (laws : IsByteOrder ordered) (all : AllByRecursion Byte area) where
    fixed_tells : (n around p q : ℕ) → Fixed area around n p (Ok q) → (x : Number n) × Lies area p q (digits ordered n x.value) × (around ≤ 64)
    fixed_tells n around p q h =
        let inside = passed q h in
        let few = shallow_tells around p (p + n) q inside.1 in
        (record { value = _; fits = number_fits area ordered laws all p n inside.0 }, ending few.1 (number_there area ordered laws all p n inside.0), few.0)

    truth_tells : (around p q : ℕ) → Truth area ordered around p (Ok q) → (b : Bool) × Lies area p q (digits ordered 4 (cond b 1 0)) × (around ≤ 64)
    truth_tells around p q h =
        let inside = passed q h in
        let small = passed q inside.1 in
        let few = shallow_tells around p (p + 4) q small.1 in
        let b = bit (number_at area ordered p) small.0 in
        (b.0, ending few.1 (subst (λ (n : ℕ). Lies area p (p + 4) (digits ordered 4 n)) b.1 (number_there area ordered laws all p 4 inside.0)), few.0)

    text_tells : (around p q : ℕ) → Texted area ordered around p (Ok q) → (w : Written texts.Text) × Lies area p q (text ordered w.bytes) × (around ≤ 64)
    text_tells around p q h =
        let inside = passed q h in
        let valid = passed q inside.1 in
        let few = shallow_tells around p (text_end area ordered p) q valid.1 in
        (record { bytes = text_at area ordered p; valid = valid.0.1 }, ending few.1 (text_there area ordered laws all p inside.0 valid.0.0), few.0)

    path_tells : (around p q : ℕ) → Pathed area ordered around p (Ok q) → (w : Written names.Path) × Lies area p q (text ordered w.bytes) × (around ≤ 64)
    path_tells around p q h =
        let inside = passed q h in
        let last = passed q inside.1 in
        let valid = passed q last.1 in
        let few = shallow_tells around p (text_end area ordered p) q valid.1 in
        (record { bytes = text_at area ordered p; valid = valid.0 }, ending few.1 (text_there area ordered laws all p inside.0 last.0), few.0)

    signature_tells : (around p q : ℕ) → Coded area types.Signature around p (Ok q) → (w : Written types.Signature) × Lies area p q (codes w.bytes) × (around ≤ 64)
    signature_tells around p q h =
        let c = coded_tells types.Signature around p q h in
        (record { bytes = codes_at area p; valid = c.0 }, c.1, c.2)

    item_tells : (b : Basic) (around p q : ℕ) → Item area ordered b around p (Ok q) → (c : Content b) × Lies area p q (content ordered b c) × (around ≤ 64)
    item_tells basics.Byte around p q h = fixed_tells 1 around p q h
    item_tells basics.Boolean around p q h = truth_tells around p q h
    item_tells basics.Int16 around p q h = fixed_tells 2 around p q h
    item_tells basics.Uint16 around p q h = fixed_tells 2 around p q h
    item_tells basics.Int32 around p q h = fixed_tells 4 around p q h
    item_tells basics.Uint32 around p q h = fixed_tells 4 around p q h
    item_tells basics.Int64 around p q h = fixed_tells 8 around p q h
    item_tells basics.Uint64 around p q h = fixed_tells 8 around p q h
    item_tells basics.Double around p q h = fixed_tells 8 around p q h
    item_tells basics.Text around p q h = text_tells around p q h
    item_tells basics.Path around p q h = path_tells around p q h
    item_tells basics.Signature around p q h = signature_tells around p q h

    -- a value of a basic type
    pub leaf_tells : (b : Basic) (around p q : ℕ) → Leaf area ordered b around p (Ok q) → (c : Content b) × Lies area p q (padded (basic_align b) (anywhere (content ordered b c)) p) × (around ≤ 64)
    leaf_tells b around p q h =
        let steps = made q h in
        let pad = pad_tells (basic_align b) p steps.0 steps.1 in
        let item = item_tells b around steps.0 q steps.2 in
        (item.0, join area pad.1 (subst (λ (n : ℕ). Lies area n q (content ordered b item.0)) pad.0 item.1), item.2)

    -- the head of an array, and the array where its elements lie behind the head
    counted_lies : (a : Alignment) (p : ℕ) → (elements_at area ordered a p).to ≤ length area → Zero area (p + 4) (place a (p + 4)) → (f : ℕ → List ℕ)
        → Lies area (place a (p + 4)) (elements_at area ordered a p).to (f (place a (p + 4))) → Lies area p (elements_at area ordered a p).to (counted ordered a f p)
    counted_lies a p inside clear f h =
        let above = place_above a (p + 4) in
        let l = long area h in
        let e : number_at area ordered p ≡ length (f (place a (p + 4))) = omega arith in
        join area
        (subst (λ (n : ℕ). Lies area p (p + 4) (digits ordered 4 n)) e (number_there area ordered laws all p 4 (omega arith)))
        (join area (zeros area (p + 4) (place a (p + 4)) above (omega arith) clear) h)

    abbrev HeadedTells : Alignment → ℕ → ℕ → Span → Type 0
    HeadedTells a around p s =
        (around ≤ 64) × (s.from ≤ s.to) × (s.to ≤ length area)
        × ((f : ℕ → List ℕ) → Lies area s.from s.to (f s.from) → Lies area p s.to (padded Four (counted ordered a f) p))

    pub headed_tells : (a : Alignment) (around p : ℕ) (s : Span) → Headed area ordered a around p (Ok s) → HeadedTells a around p s
    headed_tells a around p s h =
        let steps = made s h in
        let pad = pad_tells Four p steps.0 steps.1 in
        let m = place Four p in
        let head : Extent area ordered a around m (Ok s) = subst (λ (n : ℕ). Extent area ordered a around n (Ok s)) pad.0 steps.2 in
        let inside = passed s head in
        let few = passed s inside.1 in
        let clear = passed s few.1 in
        subst
        (HeadedTells a around p)
        (sym (ok_inj s (elements_at area ordered a m) clear.1))
        (few.0, omega arith, inside.0, λ f k. join area pad.1 (counted_lies a m inside.0 clear.0 f k))
