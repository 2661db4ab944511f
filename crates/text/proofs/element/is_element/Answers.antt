use Rattle.std.proofs.Common.{rules}
use Rattle.text.proofs.Splits.{element_by}
use Rattle.text.proofs.element.is_element.Goals as goal

pub returns : goal.returns
returns c =
    element_by c.args.kind c.args.bytes.now c.after_element.result c.is_some_and.result (λ rest p. search rules) c.after_element.ensures c.is_some_and.ensures
