use Rattle.std.proofs.Common.{Ok, Err, rules}
use Rattle.handshake.specs.declared.machine.Refusal.TheVariants.{ShortBuffer}
use Rattle.handshake.proofs.Laws.{line_grows}
use Rattle.handshake.proofs.machine.Handshake.line.Goals as goal

pub returns-then-out-lt-ROOM-clause-grows : goal.returns-then-out-lt-ROOM-clause-grows
returns-then-out-lt-ROOM-clause-grows c =
    line_grows c.args.self.now c.args.self.now c.args.id.now c.args.line.now c.args.out.now c.args.out.now (Err ShortBuffer)
    (search rules) (search rules) (search rules)

pub returns-in_err-reply-clause-grows : goal.returns-in_err-reply-clause-grows
returns-in_err-reply-clause-grows c = search (rules, line_grows)

pub returns-clause-grows : goal.returns-clause-grows
returns-clause-grows c =
    line_grows c.args.self.now c.step.new.self c.args.id.now c.args.line.now c.args.out.now c.write.new.out (Ok c.write.result)
    (search rules) (search rules) (search rules)
