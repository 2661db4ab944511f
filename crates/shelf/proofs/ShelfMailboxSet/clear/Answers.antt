use Rattle.std.proofs.Common.{[]}
use Rattle.mailbox.proofs.Tables.{set_is, clear_past}
use Rattle.shelf.specs.Meaning.{row_of}
use Rattle.shelf.proofs.Queues.{emptied_here, turned_other}
use Rattle.shelf.proofs.ShelfMailboxSet.clear.Goals as goal

pub returns-in-Ok-clause-after : goal.returns-in-Ok-clause-after
returns-in-Ok-clause-after c =
    let s = c.args.self.now in
    let t = c.empty.new.self in
    let k = c.in-Ok.c in
    let e = c.empty.ensures in
    set_is (row_of s) k c.args.c c.in-Ok.ensures.1 (row_of t) [] (emptied_here s t k.number k.within e) (λ d h ne. turned_other s t k.number k.within _ e d ne)

pub returns-in_default-clause-after : goal.returns-in_default-clause-after
returns-in_default-clause-after c = clear_past (row_of c.args.self.now) c.args.c c.in_default.ensures
