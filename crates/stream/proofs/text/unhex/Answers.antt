use Rattle.std.proofs.Common.{◌+◌, ◌*◌, [], ◌∷◌, length, vec_items, sym, refl, ◌∙◌, subst, arith}
use Rattle.std.proofs.lemmas.Slice.Eq.{slice_eq-Decides}
use Rattle.std.proofs.lemmas.List.{take_rest}
use Rattle.std.proofs.lemmas.Bool.{both_ways, eqb-false}
use Rattle.std.proofs.lemmas.Result.{err_from_is_err_and}
use Rattle.std.proofs.lemmas.Slice.{pushed}
use Rattle.stream.specs.Spelling.{Bytes}
use Rattle.stream.proofs.Exits.{bad_hex}
use Rattle.stream.proofs.Pairs.{pairs_step, bytes_push, no_hex, no_high, no_low, no_odd}
use Rattle.stream.proofs.text.unhex.Goals as goal
use Rattle.std.proofs.lemmas.Bool.Decides.{Decides-eqb}

pub returns-in_err-high : goal.returns-in_err-high
returns-in_err-high c =
    let p = err_from_is_err_and c.from_residual.result c.from_residual.ensures.1 in
    rw p.1 (
      λ o. absurd (bad_hex (sym c.in_err-high.ensures.0 ∙ sym p.2 ∙ o)),
      λ _.
          no_hex c.args.text.now (vec_items c.loop-rest.bytes) c.loop-rest.rest.now c.loop-rest.invariant.1
          (λ e. both_ways c.eq.result c.if-eq.false ((slice_eq-Decides Decides-eqb _ _ _ c.eq.ensures).1 (e ∙ sym c.as_slice.ensures)))
          (no_high c.loop-rest.rest.now c.in-len2-up.len_at_least c.in_err-high.ensures.1),
    )

pub returns-in_err-low : goal.returns-in_err-low
returns-in_err-low c =
    let p = err_from_is_err_and c.from_residual-in_err-low.result c.from_residual-in_err-low.ensures.1 in
    rw p.1 (
      λ o. absurd (bad_hex (sym c.in_err-low.ensures.0 ∙ sym p.2 ∙ o)),
      λ _.
          no_hex c.args.text.now (vec_items c.loop-rest.bytes) c.loop-rest.rest.now c.loop-rest.invariant.1
          (λ e. both_ways c.eq.result c.if-eq.false ((slice_eq-Decides Decides-eqb _ _ _ c.eq.ensures).1 (e ∙ sym c.as_slice.ensures)))
          (no_low c.loop-rest.rest.now c.in-len2-up.len_at_least c.in_err-low.ensures.1),
    )

pub loop-rest-preserved : goal.loop-rest-preserved
loop-rest-preserved c =
    let e = pushed ((c.in_ok-high.high * 16 + c.in_ok-low.low) ∷ []) refl c.in_ok-push.was c.push.ensures.items in (
      subst Bytes (sym e) (bytes_push (vec_items c.loop-rest.bytes) _ c.loop-rest.invariant.0 (omega (arith, c.in_ok-high.ensures.0, c.in_ok-low.ensures.0))),
      simp (e, take_rest) (pairs_step c.args.text.now (vec_items c.loop-rest.bytes) c.loop-rest.rest.now c.in_ok-high.high c.in_ok-low.low c.loop-rest.invariant.1 c.in-len2-up.len_at_least c.in_ok-high.ensures.1 c.in_ok-low.ensures.1 c.in_ok-low.ensures.0),
    )

pub returns-else-is_empty-2 : goal.returns-else-is_empty-2
returns-else-is_empty-2 c = (
  λ e. absurd (bad_hex e),
  λ _.
      no_hex c.args.text.now (vec_items c.loop-rest.bytes) c.loop-rest.rest.now c.loop-rest.invariant.1
      (λ e. both_ways c.eq.result c.if-eq.false ((slice_eq-Decides Decides-eqb _ _ _ c.eq.ensures).1 (e ∙ sym c.as_slice.ensures)))
      (no_odd c.loop-rest.rest.now (omega (arith, c.in_default.len_below, eqb-false (length c.loop-rest.rest.now) 0 (sym c.is_empty-2.ensures ∙ c.if-is_empty-2.false)))),
)
