use Rattle.std.proofs.Common.{ℕ, ◌-◌, ◌≤◌, List, length, drop, ap, arith}
use Rattle.signature.specs.Trees.{ElementEnds}
use Rattle.signature.specs.Phrases.{ElementAt}
use Rattle.signature.proofs.Spellings.{element_longer, element_shallow}
use Rattle.signature.proofs.Fronts.{element_ends}
use Rattle.signature.proofs.grammar.element_end.Goals as goal

-- an element of any depth is one within the greatest
deepest : (s : List ℕ) (n m : ℕ) → length s ≤ m → (h : ElementEnds s n) → ElementAt s m m (drop n s)
deepest s n m l h =
    let k = element_shallow h.element (drop n s) in
    let e = ap length h.spells in
    record { element = h.element; spells = h.spells; few_arrays = omega arith; few_structs = omega arith }

ends : (s rest : List ℕ) (m : ℕ) → ElementAt s m m rest → ElementEnds s (length s - length rest)
ends s rest m h = record { element = h.element; within = omega arith; spells = element_ends h.element s rest h.spells }

pub returns-in_err-rest : goal.returns-in_err-rest
returns-in_err-rest c =
    let s = c.args.bytes.now in
    let big : length s ≤ 18446744073709551615 = omega arith in
    rw c.from_residual.ensures (λ n h. c.in_err-rest.ensures (drop n s) (deepest s n 18446744073709551615 big h))

pub overflow_sub-result : goal.overflow_sub-result
overflow_sub-result c =
    let h = c.in_ok-rest.ensures in
    omega (arith, element_longer h.element c.in_ok-rest.rest.now, ap length h.spells)

pub returns : goal.returns
returns c = ends c.args.bytes.now c.in_ok-rest.rest.now 18446744073709551615 c.in_ok-rest.ensures
