-- When all is well with the items of a message: the other way round.
use Rattle.std.proofs.lemmas.Grind.{common_steps}
use Rattle.std.proofs.Common.{◌≡◌, ℕ, ◌+◌, ◌-◌, ◌^◌, ◌<◌, ◌≤◌, Bool, cond, List, [], ◌∷◌, ◌++◌, length, replicate, Ok, sym, refl, ap, subst, inl, arith}
use Rattle.order.proofs.Trips.{length_bytes_of}
use Rattle.text.specs.Texts as texts
use Rattle.text.specs.Grammar as names
use Rattle.signature.specs.declared.codes.Alignment.{Alignment}
use Rattle.signature.specs.declared.codes.Alignment.TheVariants.{Four, Eight}
use Rattle.signature.specs.declared.codes.Basic.{Basic}
use Rattle.signature.specs.declared.codes.Basic.TheVariants as basics
use Rattle.signature.specs.Codes.{basic_align}
use Rattle.signature.specs.Trees as types
use Rattle.items.specs.declared.Span.{Span}
use Rattle.items.specs.Items.{Pad, Fixed, Coded, Opened, Truth, Texted, Pathed, Item, Leaf, Headed, elements_at}
use Rattle.encoding.specs.Data.{Number, Written, Content}
use Rattle.encoding.specs.Encodings.{Lies, IsByteOrder, place, anywhere, padded, codes, digits, text, content, counted}
use Rattle.encoding.proofs.Spans.{long, first, second, zero_there}
use Rattle.encoding.proofs.Pieces.{unpad, codes_read, number_read, text_read}

module _ (area : List ℕ) (around : ℕ) (few : around ≤ 64) where
  before : {p q r : ℕ} {xs : List ℕ} → q ≡ r → Lies area p q xs → r ≤ length area
  before e h = grind (arith, common_steps)

  pad_passes : (a : Alignment) (p : ℕ) → Lies area p (place a p) (replicate (place a p - p) 0) → Pad area a p (Ok (place a p))
  pad_passes a p h = grind (arith, common_steps, zero_there)

  -- the beginning of a struct
  pub opened_passes : (p : ℕ) → Lies area p (place Eight p) (replicate (place Eight p - p) 0) → Opened area around p (Ok (place Eight p))
  opened_passes p h = inl (place Eight p, pad_passes Eight p h, inl (few, refl))

  -- a signature, and the type of a variant
  pub coded_passes : (Valid : List ℕ → Type 0) (p q : ℕ) (xs : List ℕ) → Valid xs → Lies area p q (codes xs) → Coded area Valid around p (Ok q)
  coded_passes Valid p q xs valid h =
      let r = codes_read area xs h in
      inl (before r.0 h, inl (r.1, inl (subst Valid (sym r.2) valid, inl (few, ap Ok r.0))))

  module _ (ordered : List ℕ → List ℕ) (laws : IsByteOrder ordered) (short : length area < 2 ^ 32) where
    digits_long : (n x : ℕ) → length (digits ordered n x) ≡ n
    digits_long n x = grind (arith, common_steps, length_bytes_of)

    to : (n x p q : ℕ) → Lies area p q (digits ordered n x) → q ≡ p + n
    to n x p q h = grind (arith, common_steps, long, digits_long)

    fixed_passes : (n p q : ℕ) (x : Number n) → Lies area p q (digits ordered n x.value) → Fixed area around n p (Ok q)
    fixed_passes n p q x h = grind (arith, common_steps, to, before)

    truth_passes : (p q : ℕ) (b : Bool) → Lies area p q (digits ordered 4 (cond b 1 0)) → Truth area ordered around p (Ok q)
    truth_passes p q b h = grind (arith, common_steps)

    written_short : (p q : ℕ) (xs : List ℕ) → Lies area p q (text ordered xs) → length xs < 2 ^ 32
    written_short p q xs h =
        let ds = digits ordered 4 (length xs) in
        let i = (second area ds (xs ++ 0 ∷ []) h).inside in
        let l = long area (first area xs (0 ∷ []) (second area ds (xs ++ 0 ∷ []) h)) in
        let j = (first area xs (0 ∷ []) (second area ds (xs ++ 0 ∷ []) h)).inside in
        omega arith

    text_passes : (p q : ℕ) (w : Written texts.Text) → Lies area p q (text ordered w.bytes) → Texted area ordered around p (Ok q)
    text_passes p q w h =
        let r = text_read area ordered laws w.bytes (written_short p q w.bytes h) h in
        inl (before r.0 h, inl ((r.1, subst texts.Text (sym r.2) w.valid), inl (few, ap Ok r.0)))

    path_passes : (p q : ℕ) (w : Written names.Path) → Lies area p q (text ordered w.bytes) → Pathed area ordered around p (Ok q)
    path_passes p q w h =
        let r = text_read area ordered laws w.bytes (written_short p q w.bytes h) h in
        inl (before r.0 h, inl (r.1, inl (subst names.Path (sym r.2) w.valid, inl (few, ap Ok r.0))))

    item_passes : (b : Basic) (p q : ℕ) (c : Content b) → Lies area p q (content ordered b c) → Item area ordered b around p (Ok q)
    item_passes basics.Byte p q c h = fixed_passes 1 p q c h
    item_passes basics.Boolean p q c h = truth_passes p q c h
    item_passes basics.Int16 p q c h = fixed_passes 2 p q c h
    item_passes basics.Uint16 p q c h = fixed_passes 2 p q c h
    item_passes basics.Int32 p q c h = fixed_passes 4 p q c h
    item_passes basics.Uint32 p q c h = fixed_passes 4 p q c h
    item_passes basics.Int64 p q c h = fixed_passes 8 p q c h
    item_passes basics.Uint64 p q c h = fixed_passes 8 p q c h
    item_passes basics.Double p q c h = fixed_passes 8 p q c h
    item_passes basics.Text p q c h = text_passes p q c h
    item_passes basics.Path p q c h = path_passes p q c h
    item_passes basics.Signature p q c h = coded_passes types.Signature p q c.bytes c.valid h

    -- a value of a basic type
    pub leaf_passes : (b : Basic) (p q : ℕ) (c : Content b) → Lies area p q (padded (basic_align b) (anywhere (content ordered b c)) p) → Leaf area ordered b around p (Ok q)
    leaf_passes b p q c h =
        let parts = unpad area (basic_align b) (anywhere (content ordered b c)) h in
        let m = place (basic_align b) p in
        inl (m, pad_passes (basic_align b) p parts.0, item_passes b m q c parts.1)

    -- the head of an array, and its elements behind the head
    pub record HeadedPasses (a : Alignment) (f : ℕ → List ℕ) (p q : ℕ) : Type 0 where
      pub span : Span
      pub head : Headed area ordered a around p (Ok span)
      pub to_end : span.to ≡ q
      pub elements : Lies area span.from q (f span.from)

    pub headed_passes : (a : Alignment) (f : ℕ → List ℕ) (p q : ℕ) → Lies area p q (padded Four (counted ordered a f) p) → HeadedPasses a f p q
    headed_passes a f p q h =
        let outer = unpad area Four (counted ordered a f) h in
        let m = place Four p in
        let n = length (f (place a (m + 4))) in
        let ds = digits ordered 4 n in
        let size = first area ds (padded a f (m + 4)) outer.1 in
        let rest : Lies area (m + 4) q (padded a f (m + 4)) =
        subst (λ (k : ℕ). Lies area (m + k) q (padded a f (m + 4))) (digits_long 4 n) (second area ds (padded a f (m + 4)) outer.1) in
        let inner = unpad area a f rest in
        let l = long area inner.1 in
        let i = inner.1.inside in
        let e = number_read area ordered laws 4 n (omega arith) size in
        record {
          span = elements_at area ordered a m;
          head = inl (m, pad_passes Four p outer.0, inl (omega arith, inl (few, inl (zero_there area (m + 4) (place a (m + 4)) inner.0, refl))));
          to_end = omega arith;
          elements = inner.1;
        }
