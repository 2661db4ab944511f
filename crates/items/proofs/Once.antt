-- Each item comes to one result, and where items end.
use Rattle.std.proofs.Common.{◌≡◌, ℕ, ◌+◌, ◌<◌, ◌≤◌, List, length, Ok, Err, Result, sym, refl, ap, ◌∙◌, subst, inl, inr, arith}
use Rattle.std.proofs.lemmas.Bool.Decides.{nat_tests}
use Rattle.signature.specs.Codes.{basic_align, step}
use Rattle.signature.specs.Trees as types
use Rattle.signature.specs.declared.codes.Alignment.{Alignment}
use Rattle.signature.specs.declared.codes.Alignment.TheVariants.{Four, Eight}
use Rattle.signature.specs.declared.codes.Basic.{Basic}
use Rattle.signature.specs.declared.codes.Basic.TheVariants as basic
use Rattle.items.specs.declared.Span.{Span}
use Rattle.items.specs.declared.fault.Cause.{Cause}
use Rattle.items.specs.declared.fault.Flaw.{Flaw}
use Rattle.items.specs.Faults.{Is, Provided, Then}
use Rattle.items.specs.Items.{aligned, Pad, Shallow, Fixed, Coded, Typed, Opened, Item, Leaf, Extent, Headed, codes_at, codes_end, text_end, elements_at}

abbrev pub One : {X E : Type 0} → (Result X E → Type 0) → Type 0
One {X} {E} A = (r q : Result X E) → A r → A q → r ≡ q

pub ok_inj : {X E : Type 0} (x y : X) → ◌≡◌ {A = Result X E} (Ok x) (Ok y) → x ≡ y
ok_inj x y e = cc

err_inj : {X E : Type 0} (f g : E) → ◌≡◌ {A = Result X E} (Err f) (Err g) → f ≡ g
err_inj f g e = cc

pub never : {X E A : Type 0} (x : X) (f : E) → ◌≡◌ {A = Result X E} (Ok x) (Err f) → A
never x f e = let z : ◌≡◌ {A = ℕ} 0 1 = cc in absurd (omega arith)

pub is_one : {X : Type 0} (x : X) → One (Is x)
is_one x r q h k = h ∙ sym k

pub provided_one : {X P : Type 0} {c : Cause} {b : ℕ} {K : Result X Flaw → Type 0} → One K → One (Provided P c b K)
provided_one one r q (inl h) (inl k) = one r q h.1 k.1
provided_one one r q (inl h) (inr k) = absurd (k.0 h.0)
provided_one one r q (inr h) (inl k) = absurd (h.0 k.0)
provided_one one r q (inr h) (inr k) = h.1 ∙ sym k.1

pub then_one : {X Y E : Type 0} {A : Result X E → Type 0} {B : X → Result Y E → Type 0} → One A → ((x : X) → One (B x)) → One (Then A B)
then_one {B = B} one ones r q (inl h) (inl k) =
    ones k.0 r q (subst (λ x. B x r) (ok_inj h.0 k.0 (one (Ok h.0) (Ok k.0) h.1 k.1)) h.2) k.2
then_one one ones r q (inl h) (inr k) = never h.0 k.0 (one (Ok h.0) (Err k.0) h.1 k.1)
then_one one ones r q (inr h) (inl k) = never k.0 h.0 (one (Ok k.0) (Err h.0) k.1 h.1)
then_one one ones r q (inr h) (inr k) =
    h.2 ∙ ap Err (err_inj h.0 k.0 (one (Err h.0) (Err k.0) h.1 k.1)) ∙ sym k.2

module _ (area : List ℕ) where
  pub pad_one : (a : Alignment) (p : ℕ) → One (Pad area a p)
  pad_one a p = provided_one (provided_one (is_one (aligned (step a) p)))

  shallow_one : (around p q : ℕ) → One (Shallow area around p q)
  shallow_one around p q = provided_one (is_one q)

  coded_one : (Valid : List ℕ → Type 0) (around p : ℕ) → One (Coded area Valid around p)
  coded_one Valid around p = provided_one (provided_one (provided_one (provided_one (is_one (codes_end area p)))))

  pub typed_one : (around p : ℕ) → One (Typed area around p)
  typed_one around p = coded_one types.Single around p

  pub opened_one : (around p : ℕ) → One (Opened area around p)
  opened_one around p = then_one (pad_one Eight p) (λ q. shallow_one around q q)

  module _ (ordered : List ℕ → List ℕ) where
    item_one : (b : Basic) (around p : ℕ) → One (Item area ordered b around p)
    item_one basic.Byte around p = provided_one (shallow_one around p (p + 1))
    item_one basic.Boolean around p = provided_one (provided_one (shallow_one around p (p + 4)))
    item_one basic.Int16 around p = provided_one (shallow_one around p (p + 2))
    item_one basic.Uint16 around p = provided_one (shallow_one around p (p + 2))
    item_one basic.Int32 around p = provided_one (shallow_one around p (p + 4))
    item_one basic.Uint32 around p = provided_one (shallow_one around p (p + 4))
    item_one basic.Int64 around p = provided_one (shallow_one around p (p + 8))
    item_one basic.Uint64 around p = provided_one (shallow_one around p (p + 8))
    item_one basic.Double around p = provided_one (shallow_one around p (p + 8))
    item_one basic.Text around p = provided_one (provided_one (provided_one (is_one (text_end area ordered p))))
    item_one basic.Path around p =
        provided_one (provided_one (provided_one (provided_one (is_one (text_end area ordered p)))))
    item_one basic.Signature around p = coded_one types.Signature around p

    pub leaf_one : (b : Basic) (around p : ℕ) → One (Leaf area ordered b around p)
    leaf_one b around p = then_one (pad_one (basic_align b) p) (λ q. item_one b around q)

    pub headed_one : (a : Alignment) (around p : ℕ) → One (Headed area ordered a around p)
    headed_one a around p =
        then_one (pad_one Four p) (λ q. provided_one (provided_one (provided_one (is_one (elements_at area ordered a q)))))

-- Q holds of the outcome where all is well
abbrev Well : {X : Type 0} → (Result X Flaw → Type 0) → (X → Type 0) → Type 0
Well {X} A Q = (r : Result X Flaw) → A r → (x : X) → r ≡ Ok x → Q x

is_well : {X : Type 0} (Q : X → Type 0) (x : X) → Q x → Well (Is x) Q
is_well Q x h r e y k = subst Q (ok_inj x y (sym e ∙ k)) h

provided_well : {X P : Type 0} {c : Cause} {b : ℕ} {K : Result X Flaw → Type 0} (Q : X → Type 0) → (P → Well K Q) → Well (Provided P c b K) Q
provided_well Q well r (inl h) x e = well h.0 r h.1 x e
provided_well {c = c} {b = b} Q well r (inr h) x e = never x (record { cause = c; byte = b }) (sym e ∙ h.1)

then_well : {X Y : Type 0} {A : Result X Flaw → Type 0} {B : X → Result Y Flaw → Type 0} (P : X → Type 0) (Q : Y → Type 0) → Well A P → ((x : X) → P x → Well (B x) Q) → Well (Then A B) Q
then_well P Q one ones r (inl h) y e = ones h.0 (one (Ok h.0) h.1 h.0 refl) r h.2 y e
then_well P Q one ones r (inr h) y e = never y h.0 (sym e ∙ h.2)

-- what follows from what holds of the outcome
well_weaker : {X : Type 0} {A : Result X Flaw → Type 0} (P Q : X → Type 0) → ((x : X) → P x → Q x) → Well A P → Well A Q
well_weaker P Q f well r h x e = f x (well r h x e)

aligned_above : (n p : ℕ) → p ≤ aligned n p
aligned_above n p = grind (arith, nat_tests)

module _ (area : List ℕ) where
  -- it ends at or behind p, within the area
  abbrev To : ℕ → ℕ → Type 0
  To p q = (p ≤ q) × (q ≤ length area)

  pad_well : (a : Alignment) (p : ℕ) → Well (Pad area a p) (To p)
  pad_well a p =
      provided_well (To p) (λ within. provided_well (To p) (λ _. is_well (To p) (aligned (step a) p) (aligned_above (step a) p, within)))

  shallow_well : (Q : ℕ → Type 0) (around p q : ℕ) → (around ≤ 64 → Q q) → Well (Shallow area around p q) Q
  shallow_well Q around p q h = provided_well Q (λ few. is_well Q q (h few))

  abbrev CodesTo : (List ℕ → Type 0) → ℕ → ℕ → ℕ → Type 0
  CodesTo Valid around p q = (p + 2 ≤ q) × (q ≤ length area) × (q ≡ codes_end area p) × Valid (codes_at area p) × (around ≤ 64)

  coded_well : (Valid : List ℕ → Type 0) (around p : ℕ) → Well (Coded area Valid around p) (CodesTo Valid around p)
  coded_well Valid around p =
      let Q = CodesTo Valid around p in
      provided_well Q (λ within. provided_well Q (λ _. provided_well Q (λ valid. shallow_well Q around p (codes_end area p) (λ few. (omega arith, within, refl, valid, few)))))

  abbrev OpenedTo : ℕ → ℕ → ℕ → Type 0
  OpenedTo around p q = (p ≤ q) × (q ≤ length area) × (around ≤ 64)

  opened_well : (around p : ℕ) → Well (Opened area around p) (OpenedTo around p)
  opened_well around p =
      let Q = OpenedTo around p in
      then_well (To p) Q (pad_well Eight p) (λ x w. shallow_well Q around x x (λ few. (w.0, w.1, few)))

  pub pad_moves : (a : Alignment) (p q : ℕ) → Pad area a p (Ok q) → (p ≤ q) × (q ≤ length area)
  pad_moves a p q h = pad_well a p (Ok q) h q refl

  pub typed_moves : (around p q : ℕ) → Typed area around p (Ok q) → (p + 2 ≤ q) × (q ≤ length area) × (q ≡ codes_end area p) × types.Single (codes_at area p) × (around ≤ 64)
  typed_moves around p q h = coded_well types.Single around p (Ok q) h q refl

  pub opened_moves : (around p q : ℕ) → Opened area around p (Ok q) → (p ≤ q) × (q ≤ length area) × (around ≤ 64)
  opened_moves around p q h = opened_well around p (Ok q) h q refl

  module _ (ordered : List ℕ → List ℕ) where
    fixed_well : (around n p : ℕ) → 0 < n → Well (Fixed area around n p) (To (p + 1))
    fixed_well around n p some =
        let Q = To (p + 1) in
        provided_well Q (λ within. shallow_well Q around p (p + n) (λ _. (omega arith, within)))

    item_well : (b : Basic) (around p : ℕ) → Well (Item area ordered b around p) (To (p + 1))
    item_well basic.Byte around p = fixed_well around 1 p (omega arith)
    item_well basic.Boolean around p =
        let Q = To (p + 1) in
        provided_well Q (λ within. provided_well Q (λ _. shallow_well Q around p (p + 4) (λ _. (omega arith, within))))
    item_well basic.Int16 around p = fixed_well around 2 p (omega arith)
    item_well basic.Uint16 around p = fixed_well around 2 p (omega arith)
    item_well basic.Int32 around p = fixed_well around 4 p (omega arith)
    item_well basic.Uint32 around p = fixed_well around 4 p (omega arith)
    item_well basic.Int64 around p = fixed_well around 8 p (omega arith)
    item_well basic.Uint64 around p = fixed_well around 8 p (omega arith)
    item_well basic.Double around p = fixed_well around 8 p (omega arith)
    item_well basic.Text around p =
        let Q = To (p + 1) in
        provided_well Q (λ within. provided_well Q (λ _. shallow_well Q around p (text_end area ordered p) (λ _. (omega arith, within))))
    item_well basic.Path around p =
        let Q = To (p + 1) in
        provided_well Q (λ within. provided_well Q (λ _. provided_well Q (λ _. shallow_well Q around p (text_end area ordered p) (λ _. (omega arith, within)))))
    item_well basic.Signature around p =
        well_weaker (CodesTo types.Signature around p) (To (p + 1)) (λ q h. (omega arith, h.1)) (coded_well types.Signature around p)

    leaf_well : (b : Basic) (around p : ℕ) → Well (Leaf area ordered b around p) (To (p + 1))
    leaf_well b around p =
        let Q = To (p + 1) in
        then_well (To p) Q (pad_well (basic_align b) p) (λ x w. well_weaker (To (x + 1)) Q (λ q h. (omega arith, h.1)) (item_well b around x))

    abbrev SpanTo : ℕ → ℕ → Span → Type 0
    SpanTo around p s = (p < s.from) × (s.from ≤ s.to) × (s.to ≤ length area) × (around ≤ 64)

    extent_well : (a : Alignment) (around p : ℕ) → Well (Extent area ordered a around p) (SpanTo around p)
    extent_well a around p =
        let Q = SpanTo around p in
        let above = aligned_above (step a) (p + 4) in
        provided_well Q (λ within. provided_well Q (λ few. provided_well Q (λ _. is_well Q (elements_at area ordered a p) (omega arith, omega arith, within, few))))

    headed_well : (a : Alignment) (around p : ℕ) → Well (Headed area ordered a around p) (SpanTo around p)
    headed_well a around p =
        let Q = SpanTo around p in
        then_well (To p) Q (pad_well Four p) (λ x w. well_weaker (SpanTo around x) Q (λ s h. (omega arith, h.1, h.2, h.3)) (extent_well a around x))

    pub leaf_moves : (b : Basic) (around p q : ℕ) → Leaf area ordered b around p (Ok q) → (p < q) × (q ≤ length area)
    leaf_moves b around p q h = let m = leaf_well b around p (Ok q) h q refl in (omega arith, m.1)

    pub headed_moves : (a : Alignment) (around p : ℕ) (s : Span) → Headed area ordered a around p (Ok s) → (p < s.from) × (s.from ≤ s.to) × (s.to ≤ length area) × (around ≤ 64)
    headed_moves a around p s h = headed_well a around p (Ok s) h s refl
