use Rattle.std.proofs.Common.{rules}
use Rattle.signature.proofs.Fronts.{weaken, single_by}
use Rattle.signature.proofs.grammar.is_single.Goals as goal

pub returns : goal.returns
returns c =
    single_by c.args.bytes.now c.first_type.result c.is_some_and.result c.first_type.ensures
    (weaken c.first_type.result (λ e. e) (λ n p. search rules) c.is_some_and.ensures)
