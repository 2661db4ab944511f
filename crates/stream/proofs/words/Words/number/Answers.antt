use Rattle.std.proofs.Common.{◌≡◌, ℕ, ◌^◌, ◌<◌, ◌≤◌, List, ◌∷◌, Some, None, decimal, Option, MatchOption, MatchResult, ap, sym, ◌∙◌, arith}
use Rattle.std.specs.Option.{ok_or}
use Rattle.stream.specs.Text.{left}
use Rattle.stream.specs.declared.fault.Fault.TheVariants.{BadNumber, OutOfMemory}
use Rattle.stream.proofs.Exits.{bad_number, same_number}
use Rattle.stream.proofs.words.Words.number.Goals as goal

narrowed : {X : Type 0} (worth : X → ℕ) (bound n : ℕ) (old new : List (List ℕ)) (o : Option X) → n < 2 ^ 64 → old ≡ decimal n ∷ new → MatchOption o (bound ≤ n) (λ x. (n < bound) × (worth x ≡ n)) → MatchResult (ok_or o BadNumber) (λ x. (worth x < bound) × (old ≡ decimal (worth x) ∷ new)) (λ e. (e ≡ OutOfMemory → ⊥) × ((m : ℕ) (ws : List (List ℕ)) → m < bound → m < 2 ^ 64 → old ≡ decimal m ∷ ws → ⊥))
narrowed worth bound n old new (Some x) small e h = (omega (arith, h.0, h.1), e ∙ ap (λ k. decimal k ∷ new) (sym h.1))
narrowed worth bound n old new None small e h = (bad_number, λ m ws low fits f. omega (arith, h, same_number n m small fits e f))

pub returns : goal.returns
returns g c =
    let e = rw c.in_ok-text.ensures.ok_part at c.next.ensures.steps in
    let n = rw c.in_ok-n.ensures.ok_part at c.number.ensures in
    rw c.ok_or-3.ensures.value (narrowed g.T.Number.worth g.T.Number.bound c.in_ok-n.n (left c.args.self.now) (left c.next.new.self) c.narrowed.result n.0 (e ∙ ap (λ (w : List ℕ). w ∷ left c.next.new.self) n.1) c.narrowed.ensures)
