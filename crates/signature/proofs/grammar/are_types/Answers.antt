use Rattle.std.proofs.Common.{◌<◌, length, sym, refl, arith}
use Rattle.std.proofs.lemmas.Bool.{eqb-false, eqb-true, false≢true}
use Rattle.signature.proofs.Fronts.{shorter, no_types, types_before, types_after, types_front}
use Rattle.signature.proofs.grammar.are_types.Goals as goal

pub loop-rest-smaller : goal.loop-rest-smaller
loop-rest-smaller c = shorter c.loop-rest.rest.now c.in-Some.left.now 32 32 c.in-Some.ensures

pub loop-rest-preserved : goal.loop-rest-preserved
loop-rest-preserved c =
    let h = c.in-Some.ensures in
    let r = c.loop-rest.rest.now in
    let q = c.in-Some.left.now in
    let i = c.loop-rest.invariant in
    (λ k. i.0 (types_before r q h k), λ k. types_after r q h (i.1 k))

pub returns-in-None : goal.returns-in-None
returns-in-None c =
    let ne = eqb-false _ _ (sym c.loop-rest-test.ensures) in
    let l : 0 < length c.loop-rest.rest.now = omega arith in
    (λ e. absurd (false≢true e), λ k. let p = types_front c.loop-rest.rest.now l (c.loop-rest.invariant.1 k) in absurd (c.in-None.ensures p.0 p.1))

pub returns : goal.returns
returns c =
    let z = eqb-true _ _ (sym c.loop-rest-test.ensures) in
    (λ _. c.loop-rest.invariant.0 (no_types c.loop-rest.rest.now z), λ _. refl)
