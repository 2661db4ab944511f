use Rattle.std.proofs.Common.{◌≡◌, length, Ok, sym, refl, ap, ◌∙◌, arith}
use Rattle.std.proofs.lemmas.List.{nil_from_length}
use Rattle.area.proofs.Joins.{stored, not_stored, written_front}
use Rattle.mailbox.proofs.Tables.{take_past, take_none, take_short, take_done}
use Rattle.shelf.specs.Meaning.{row_of}
use Rattle.shelf.specs.Laws.{row_length}
use Rattle.shelf.proofs.Queues.{row_first, advanced_here, turned_other}
use Rattle.shelf.proofs.ShelfMailboxSet.take.Goals as goal

pub returns-in_default : goal.returns-in_default
returns-in_default c =
    let d = take_past (row_of c.args.self.now) c.args.c c.args.buffer.now c.in_default.ensures in
    record { answer = d.0; after = d.1; buffer = d.2; bound = refl }

pub returns-in_default-oldest : goal.returns-in_default-oldest
returns-in_default-oldest c =
    let s = c.args.self.now in
    let k = c.in-Ok.c in
    let none = nil_from_length (row_of s k.number) (row_length s k.number ∙ c.in_default-oldest.ensures) in
    let d = take_none (row_of s) k c.args.c c.in-Ok.ensures.1 c.args.buffer.now none in
    record { answer = d.0; after = d.1; buffer = d.2; bound = refl }

pub returns-in_default-store : goal.returns-in_default-store
returns-in_default-store c =
    let s = c.args.self.now in
    let k = c.in-Ok.c in
    let m = c.in-Some.message.now in
    let b = c.args.buffer.now in
    let n = not_stored b m 0 (sym c.in_default-store.ensures.end) in
    let first = row_first s k.number m c.in-Some.ensures.0 c.in-Some.ensures.1 in
    let d = take_short (row_of s) k c.args.c c.in-Ok.ensures.1 b m _ first (omega arith) in
    record { answer = d.0; after = d.1; buffer = c.store.ensures.after ∙ n.1 ∙ d.2; bound = refl }

pub returns : goal.returns
returns c =
    let s = c.args.self.now in
    let t = c.advance.new.self in
    let k = c.in-Ok.c in
    let m = c.in-Some.message.now in
    let b = c.args.buffer.now in
    let e = c.advance.ensures in
    let n = stored b m 0 c.in-Some-store.size (sym c.in-Some-store.ensures.end) in
    let size : c.in-Some-store.size ≡ length m = omega arith in
    let first = advanced_here s t k.number k.within e c.in-Some.ensures.0 m c.in-Some.ensures.1 in
    let d = take_done (row_of s) k c.args.c c.in-Ok.ensures.1 b (row_of t) m first (omega arith) (λ d h ne. turned_other s t k.number k.within _ e d ne) in
    record { answer = ap Ok size ∙ d.0; after = d.1; buffer = c.store.ensures.after ∙ n.2 ∙ written_front b m ∙ d.2; bound = e.limit }
