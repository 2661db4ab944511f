use Rattle.std.proofs.Common.{length, sym, ap, ◌∙◌}
use Rattle.mailbox.proofs.Tables.{waiting_is, tabled_past}
use Rattle.roll.specs.Meaning.{waits}
use Rattle.roll.proofs.calls.RollMailboxSet.count.Goals as goal

pub returns-in-Ok : goal.returns-in-Ok
returns-in-Ok c =
    let s = c.args.self.now in
    let k = c.in-Ok.c in
    c.count_of.ensures ∙ s.tallied k.number ∙ sym (ap length (waiting_is (waits s) k c.args.c c.in-Ok.ensures.1))

pub returns-in-Err : goal.returns-in-Err
returns-in-Err c = sym (ap length (tabled_past (waits c.args.self.now) c.args.c c.in-Err.ensures))
