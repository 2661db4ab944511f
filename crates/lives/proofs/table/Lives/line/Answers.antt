use Rattle.std.proofs.Common.{◌≡◌, ℕ, List, set, length, Some, None, Err, ap, ◌∙◌, rules}
use Rattle.handshake.specs.declared.machine.Handshake.{Handshake}
use Rattle.handshake.specs.declared.machine.Refusal as handshake
use Rattle.handshake.specs.declared.machine.Refusal.TheVariants.{EarlyBegin}
use Rattle.handshake.specs.Machine.{heard}
use Rattle.lives.specs.declared.table.Lives.{Lives}
use Rattle.lives.specs.Calls.{Table, life}
use Rattle.lives.proofs.Telling.{closed_early, stored_again}
use Rattle.lives.proofs.table.Lives.line.Goals as goal
use Rattle.lives.proofs.table.Lives.line.Goals.{then-eq, else-eq}

pub returns-in_err-answer-clause-lives : goal.returns-in_err-answer-clause-lives
returns-in_err-answer-clause-lives c =
    let t : Table = c.args.self.now.table in
    let id : List ℕ = c.args.self.now.id in
    let line : List ℕ = c.args.line.now in
    let room : ℕ = length c.args.out.now in
    let h : Handshake = c.in_ok-life.life.now in
    let k : Handshake = c.line-answer.new.self in
    let e : handshake.Refusal = c.in_err-answer.field-0.0 in
    let is : life t c.args.c ≡ Some h = search rules in
    let refused : (heard h.state h.uid id line room).answer ≡ Err e = search rules in
    let at : c.index.result ≡ c.args.c = search rules in
    elim c.if-eq.branch [
      | then-eq w ↦
          let early : e ≡ EarlyBegin = search rules in
          ap (λ (l : Lives). l.table) w.self-is ∙ ap (λ (i : ℕ). set t i None) at ∙ closed_early t id line c.args.c room h e is refused early
      | else-eq w ↦
          let late : e ≡ EarlyBegin → ⊥ = search rules in
          ap (λ (l : Lives). l.table) w.self-is ∙ ap (λ (i : ℕ). set t i (Some k)) at ∙ stored_again t id line c.args.c room h e is refused k (search rules) late
    ]
