use Rattle.std.proofs.Common.{[], ◌∷◌, Some, None}
use Rattle.std.proofs.lemmas.Bool.Decides.{Decides-eqb}
use Rattle.std.proofs.lemmas.Slice.Eq.{strip_prefix_is}
use Rattle.text.proofs.Rows.{after_led, no_led}
use Rattle.text.proofs.element.after_led.Goals as goal

pub returns-in_err-strip_prefix : goal.returns-in_err-strip_prefix
returns-in_err-strip_prefix c =
    rw c.from_residual.ensures (no_led c.args.separator c.args.kind c.args.bytes.now (strip_prefix_is Decides-eqb c.args.bytes.now (c.args.separator ∷ []) None c.in_err-strip_prefix.ensures.cases))

pub returns : goal.returns
returns c =
    let rest = c.in_ok-strip_prefix.field-0 in
    let parted = strip_prefix_is Decides-eqb c.args.bytes.now (c.args.separator ∷ []) (Some rest) c.in_ok-strip_prefix.ensures.cases in
    after_led c.args.separator c.args.kind c.requires c.args.bytes.now rest.now c.after_element.result parted c.after_element.ensures
