use Rattle.std.proofs.lemmas.List.{take_rest}
use Rattle.text.proofs.Splits.{follows}
use Rattle.text.proofs.element.after_element.Goals as goal

pub returns : goal.returns
returns c =
    let parted = c.in_ok-first.ensures.cases.0 in
    let begins = c.may_begin_with.ensures.0 c.if-not-may_begin_with.false in
    let scan = c.run.ensures in
    simp take_rest (follows c.args.kind _ c.run.result c.in_ok-first.rest.now _ parted begins scan.within scan.before scan.ended)
