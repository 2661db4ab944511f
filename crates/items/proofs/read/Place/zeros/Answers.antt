use Rattle.std.proofs.Common.{◌≡◌, ◌≢◌, ℕ, ◌+◌, ◌-◌, ◌<◌, ◌≤◌, Bool, true, false, List, length, get_or, take, drop, Ok, Err, Result, MatchResult, sym, ap, ◌∙◌, arith, length-drop, length-take, get_or-drop, get_or-take, rules}
use Rattle.std.specs.Bool.{MatchBool}
use Rattle.std.specs.List.{AllWithin, HoldsAt}
use Rattle.std.proofs.lemmas.Bool.{false≢true}
use Rattle.std.proofs.lemmas.Iterator.{cases_from_all, YieldsList-from_slice}
use borrow.Author.Tests.{tests}
use Rattle.items.specs.Items.{Zero}
use Rattle.items.specs.declared.fault.Flaw.{Flaw}
use Rattle.items.proofs.read.Place.zeros.Goals as goal

-- what the test of some bytes tells of the area
tested : (area : List ℕ) (p q : ℕ) (b : Bool) → p ≤ q → q ≤ length area → MatchBool b (AllWithin (λ x. x ≡ 0) (take (q - p) (drop p area)) 0 (length (take (q - p) (drop p area)))) ((k : ℕ) × (k < length (take (q - p) (drop p area))) × HoldsAt (λ x. x ≢ 0) (take (q - p) (drop p area)) k) → MatchBool b (Zero area p q) (Zero area p q → ⊥)
tested area p q true up within h = λ k above below.
    let lies : k - p < length (take (q - p) (drop p area)) = simp (length-take, length-drop) (omega arith) in
    let same : p + (k - p) ≡ k = omega arith in
    ap (λ n. get_or area n 0) (sym same)
    ∙ sym (get_or-take (q - p) (drop p area) (k - p) 0 (omega arith) ∙ get_or-drop p area (k - p) 0)
    ∙ h (k - p) 0 (omega arith) lies
tested area p q false up within h = λ zero.
    let lies : h.0 < q - p = omega (arith, h.1, simp (length-take, length-drop) at h.1) in
    h.2 0 (get_or-take (q - p) (drop p area) h.0 0 lies ∙ get_or-drop p area h.0 0 ∙ zero (p + h.0) (omega arith) (omega arith))

refused : (P : Type 0) (b : Bool) (r : Result (Unit {0}) Flaw) (g : Flaw) → MatchBool b P (P → ⊥) → MatchResult r (λ _. b ≡ true) (λ f. (b ≡ false) × (f ≡ g)) → MatchResult r (λ _. P) (λ f. (P → ⊥) × (f ≡ g))
refused P true (Ok x) g m e = m
refused P true (Err f) g m e = absurd (false≢true (sym e.0))
refused P false (Ok x) g m e = absurd (false≢true e)
refused P false (Err f) g m e = (m, e.1)

pub returns : goal.returns
returns c =
    let p = c.args.self in
    let all = cases_from_all _ _ c.all-zero.result (λ x. x ≡ 0) (λ x. x ≢ 0) c.all-zero.ensures.ran (YieldsList-from_slice (take (c.args.to - p.at) (drop p.at p.area.now)) cc) (λ x q k. search (rules, tests)) (λ x q k. search (rules, tests)) in
    refused (Zero p.area.now p.at c.args.to) c.all-zero.result c.ensure.result _ (tested p.area.now p.at c.args.to c.all-zero.result c.requires.0 c.requires.1 all) c.ensure.ensures
