use Rattle.std.proofs.Common.{◌≡◌, ◌≢◌, Ok, sym, ap, ◌∙◌, inl, arith, Result, Err, true, is_ok, MatchResult, subst}
use Rattle.frame.specs.Kinds.{mark, kind_at}
use Rattle.frame.specs.Frames.{frame_at}
use Rattle.frame.proofs.Heads.{order_is, number_is, frames}
use Rattle.frame.proofs.read.begun.Goals as goal

-- of an outcome that was passed on
told : {A E : Type 0} (D : Type 0) (P : A → Type 0) (Q R : E → Type 0) (r : Result A E) (x : A) → true ≡ is_ok r → MatchResult r (λ y. ◌≡◌ {A = Result A D} (Ok x) (Ok y)) R → MatchResult r P Q → P x
told D P Q R (Ok y) x t e h = subst P (let k : y ≡ x = cc in k) h
told D P Q R (Err f) x t e h = absurd (cc)

pub returns : goal.returns
returns c =
    let bytes = c.args.bytes.now in
    let x = c.in_ok-first.first in
    let h = c.in_ok-first.ensures in
    let o = c.in_ok-order.order in
    let m : mark o ≡ x.mark = told _ (λ z. mark z ≡ x.mark) _ _ _ o c.in_ok-order.ensures.variant c.in_ok-order.ensures.cases c.try_from.ensures in
    let k : (x.kind ≢ 0) × (c.in_ok-kind.kind ≡ kind_at x.kind) =
    told _ (λ z. (x.kind ≢ 0) × (z ≡ kind_at x.kind)) _ _ _ c.in_ok-kind.kind c.in_ok-kind.ensures.variant c.in_ok-kind.ensures.cases c.try_from-2.ensures
    in
    let marked = m ∙ h.mark in
    let body = number_is bytes o marked 4 _ x.body (omega (arith, h.long)) h.body c.u32_of.ensures in
    let serial = number_is bytes o marked 8 _ x.serial (omega (arith, h.long)) h.serial c.u32_of-2.ensures in
    let fields = number_is bytes o marked 12 _ x.fields (omega (arith, h.long)) h.fields c.u32_of-3.ensures in
    let same = frames _ (frame_at bytes) (sym (order_is bytes o marked)) (k.1 ∙ ap kind_at h.kind) h.flags body serial fields in
    inl (h.long, inl ((o, marked), inl (λ z. k.0 (h.kind ∙ z), inl (sym h.version ∙ c.if-first-ne-VERSION.false, ap Ok same))))
