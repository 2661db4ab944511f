use Rattle.std.proofs.Common.{◌≡◌, ℕ, ◌+◌, ◌<◌, List, length, take, Some, Ok, Err, Result, refl, subst, inl, inr, arith, length-take}
use Rattle.std.proofs.lemmas.Bool.{false≢true}
use Rattle.std.proofs.lemmas.Result.{err_from_is_err_and}
use Rattle.signature.specs.declared.codes.Basic.TheVariants as basics
use Rattle.items.specs.declared.fault.Flaw.{Flaw}
use Rattle.items.specs.declared.fault.Fault.{Fault}
use Rattle.items.specs.declared.fault.Part.{Part}
use Rattle.items.specs.declared.fault.Part.TheVariants as part
use Rattle.items.specs.Items.{Item}
use Rattle.items.proofs.Once.{never}
use Rattle.frame.specs.declared.Frame.{Frame}
use Rattle.frame.specs.Firsts.{frame_size}
use Rattle.fields.specs.declared.Fields.{Fields}
use Rattle.fields.specs.declared.known.Field.TheVariants.{Signature}
use Rattle.fields.specs.Headers.{place_of, Header}
use Rattle.fields.proofs.Kept.{header_holds}
use Rattle.message.specs.declared.Layout.{Layout}
use Rattle.message.specs.Messages.{placed, AfterFields, AfterFrame}
use Rattle.message.proofs.reading.behind.Goals as goal

-- a signature that lies well begins within the message
codes_in : (ordered : List ℕ → List ℕ) (bytes : List ℕ) (end p q : ℕ) → Item (take end bytes) ordered basics.Signature 0 p (Ok q) → p < length bytes
codes_in ordered bytes end p q (inl h) = omega (arith, h.0, length-take end bytes)
codes_in ordered bytes end p q (inr h) = never q _ h.1

well : {X : Type 0} (part : Part) (x : X) (r : Result X Flaw) → Ok x ≡ placed part r → r ≡ Ok x
well part x (Ok y) e = cc
well part x (Err f) e = cc

-- the fields were read up to where they end
module _ (o : List ℕ → List ℕ) (b : List ℕ) (f : Frame) (end : ℕ) (is_end : end ≡ frame_size + f.fields) (r : Result Fields Flaw) (read : Header o b end r) (s : Fields) (passed : Ok s ≡ placed part.Fields r) where
  header : Header o b (frame_size + f.fields) r
  header = subst (λ (n : ℕ). Header o b n r) is_end read

  codes_begin : (p : ℕ) → place_of s.places Signature ≡ Some p → p < length b
  codes_begin p e =
      let held = header_holds o b (frame_size + f.fields) s (subst (λ (x : Result Fields Flaw). Header o b (frame_size + f.fields) x) (well _ s r passed) header) Signature p e in
      codes_in o b (frame_size + f.fields) p held.end held.lies

  then_fields : (q : Result Layout Fault) → AfterFields o b f s q → AfterFrame o b f q
  then_fields q h = inl (s, (r, header, passed), h)

pub contents-requires : goal.contents-requires
contents-requires g c p e =
    codes_begin g.O.ByteOrder.ordered c.args.bytes.now c.args.frame c.fields_end.result c.fields_end.ensures c.read_fields.result c.read_fields.ensures c.in_ok-fields.fields c.in_ok-fields.ensures p e

pub returns-in_err-fields : goal.returns-in_err-fields
returns-in_err-fields g c =
    let o = g.O.ByteOrder.ordered in
    let p = err_from_is_err_and c.from_residual.result c.from_residual.ensures.1 in
    let read = subst (λ (n : ℕ). Header o c.args.bytes.now n c.read_fields.result) c.fields_end.ensures c.read_fields.ensures in
    rw (p.1, p.2) (inr (c.in_err-fields.field-0.0, (c.read_fields.result, read, c.in_err-fields.ensures), refl))

pub returns-in_err-end : goal.returns-in_err-end
returns-in_err-end g c =
    let p = err_from_is_err_and c.from_residual-in_err-end.result c.from_residual-in_err-end.ensures.1 in
    let f = c.in_err-end.field-0.0 in
    rw (p.1, p.2)
    (then_fields g.O.ByteOrder.ordered c.args.bytes.now c.args.frame c.fields_end.result c.fields_end.ensures c.read_fields.result c.read_fields.ensures c.in_ok-fields.fields c.in_ok-fields.ensures _
    (inr (f, (c.contents.result, c.contents.ensures, c.in_err-end.ensures), refl)))

pub returns-then-not-is_complete : goal.returns-then-not-is_complete
returns-then-not-is_complete g c =
    let missing = c.if-not-is_complete.ensures in
    then_fields g.O.ByteOrder.ordered c.args.bytes.now c.args.frame c.fields_end.result c.fields_end.ensures c.read_fields.result c.read_fields.ensures c.in_ok-fields.fields c.in_ok-fields.ensures _
    (inl (c.in_ok-end.end, (c.contents.result, c.contents.ensures, c.in_ok-end.ensures), inr (_, (Err _, inr (λ k. false≢true (missing.1 k), refl), refl), refl)))

pub returns-then-end-bytes : goal.returns-then-end-bytes
returns-then-end-bytes g c =
    let q = c.in_ok-end.end in
    then_fields g.O.ByteOrder.ordered c.args.bytes.now c.args.frame c.fields_end.result c.fields_end.ensures c.read_fields.result c.read_fields.ensures c.in_ok-fields.fields c.in_ok-fields.ensures _
    (inl (q, (c.contents.result, c.contents.ensures, c.in_ok-end.ensures), inl (q, (Ok q, inl (c.if-not-is_complete.ensures.0 refl, refl), refl), (Err _, inr (c.if-end-bytes.true, refl), refl))))

pub returns : goal.returns
returns g c =
    let q = c.in_ok-end.end in
    then_fields g.O.ByteOrder.ordered c.args.bytes.now c.args.frame c.fields_end.result c.fields_end.ensures c.read_fields.result c.read_fields.ensures c.in_ok-fields.fields c.in_ok-fields.ensures _
    (inl (q, (c.contents.result, c.contents.ensures, c.in_ok-end.ensures), inl (q, (Ok q, inl (c.if-not-is_complete.ensures.0 refl, refl), refl), (Ok _, inl (c.if-end-bytes.false, refl), refl))))
