use Rattle.std.proofs.Common.{◌-◌, Result}
use Rattle.items.specs.declared.fault.Flaw.{Flaw}
use Rattle.fields.specs.declared.Fields.{Fields}
use Rattle.fields.specs.Headers.{AllFields, none_yet}
use Rattle.fields.proofs.read.Reader.fields.Given as goal

abbrev pub invariant-loop-fields : goal.invariant-loop-fields
invariant-loop-fields g l =
    (r : Result Fields Flaw) → AllFields g.O.ByteOrder.ordered l.self.bytes.now l.self.end l.fields r → AllFields g.O.ByteOrder.ordered l.self.bytes.now l.self.end none_yet r

abbrev pub decreases-loop-fields : goal.decreases-loop-fields
decreases-loop-fields g l = l.self.end - l.fields.at
