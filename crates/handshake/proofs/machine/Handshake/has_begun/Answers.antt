use Rattle.std.proofs.Common.{◌≡◌, Decides, rules}
use Rattle.std.proofs.lemmas.Bool.Decides.{Decides-like}
use Rattle.handshake.specs.declared.machine.State.TheVariants.{Begun}
use Rattle.handshake.proofs.Laws.{law}
use Rattle.handshake.proofs.machine.Handshake.has_begun.Goals as goal

pub returns-clause-law : goal.returns-clause-law
returns-clause-law c id xs told =
    let begun : Decides c.eq.result (c.args.self.now.state ≡ Begun) = search rules in
    let shown = law id c.args.self.now.uid xs c.args.self.now.state told in
    Decides-like c.eq.result shown.0 shown.1 begun
