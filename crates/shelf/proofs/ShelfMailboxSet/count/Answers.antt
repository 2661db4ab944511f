use Rattle.std.proofs.Common.{length, sym, ap, ◌∙◌}
use Rattle.mailbox.proofs.Tables.{waiting_is, tabled_past}
use Rattle.shelf.specs.Meaning.{row_of}
use Rattle.shelf.specs.Laws.{row_length}
use Rattle.shelf.proofs.ShelfMailboxSet.count.Goals as goal

pub returns-in-Ok : goal.returns-in-Ok
returns-in-Ok c =
    let s = c.args.self.now in
    let k = c.in-Ok.c in
    c.count_of.ensures ∙ sym (ap length (waiting_is (row_of s) k c.args.c c.in-Ok.ensures.1) ∙ row_length s k.number)

pub returns-in-Err : goal.returns-in-Err
returns-in-Err c = sym (ap length (tabled_past (row_of c.args.self.now) c.args.c c.in-Err.ensures))
