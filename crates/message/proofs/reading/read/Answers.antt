use Rattle.std.proofs.Common.{sym, subst, inl}
use Rattle.frame.specs.declared.kinds.Order.{Order}
use Rattle.frame.specs.Kinds.{ordered}
use Rattle.message.specs.Messages.{AfterFrame}
use Rattle.message.proofs.Once.{decided}
use Rattle.message.proofs.reading.read.Goals as goal

pub returns-in-Little-clause-value : goal.returns-in-Little-clause-value
returns-in-Little-clause-value c =
    let f = c.in_ok-frame.frame in
    let z = subst (λ (o : Order). AfterFrame (ordered o) c.args.bytes.now f c.behind.result) (sym c.in-Little.is) c.behind.ensures in
    inl (f, (c.read_frame.result, c.read_frame.ensures, c.in_ok-frame.ensures), z)

pub returns-in-Big-clause-value : goal.returns-in-Big-clause-value
returns-in-Big-clause-value c =
    let f = c.in_ok-frame.frame in
    let z = subst (λ (o : Order). AfterFrame (ordered o) c.args.bytes.now f c.behind-in-Big.result) (sym c.in-Big.is) c.behind-in-Big.ensures in
    inl (f, (c.read_frame.result, c.read_frame.ensures, c.in_ok-frame.ensures), z)

pub returns-in_err-frame-clause-once : goal.returns-in_err-frame-clause-once
returns-in_err-frame-clause-once c = decided

pub returns-in-Little-clause-once : goal.returns-in-Little-clause-once
returns-in-Little-clause-once c = decided

pub returns-in-Big-clause-once : goal.returns-in-Big-clause-once
returns-in-Big-clause-once c = decided
