use Rattle.std.proofs.Common.{ℕ, List, [], ◌∷◌, ◌++◌, sym, refl, ap, ◌∙◌, arith}
use Rattle.std.proofs.lemmas.Bool.{leb-true, leb-false}
use Rattle.mailbox.proofs.Tables.{put_full, put_done}
use Rattle.shelf.specs.Meaning.{row_of, count_in}
use Rattle.shelf.specs.Laws.{row_length}
use Rattle.shelf.proofs.Queues.{appended_here, appended_other}
use Rattle.shelf.proofs.ShelfMailboxSet.put.Goals as goal

pub returns-then-is_full : goal.returns-then-is_full
returns-then-is_full c =
    let s = c.args.self.now in
    let k = c.in_ok-c.c in
    let w = c.in_ok-message.message in
    let full = leb-true s.limit (count_in s k.number) (sym c.is_full.ensures ∙ c.if-is_full.true) in
    let p = put_full (row_of s) k c.args.c c.in_ok-c.ensures.1 s.limit w c.args.message.now c.in_ok-message.ensures (omega (arith, row_length s k.number)) in
    record { answer = p.0; after = p.1; bound = refl }

pub returns : goal.returns
returns c =
    let s = c.args.self.now in
    let t = c.append.new.self in
    let k = c.in_ok-c.c in
    let w = c.in_ok-message.message in
    let m = w.bytes.now in
    let a = c.append.ensures in
    let free = leb-false s.limit (count_in s k.number) (sym c.is_full.ensures ∙ c.if-is_full.false) in
    let n = row_length s k.number in
    let p = put_done (row_of s) k c.args.c c.in_ok-c.ensures.1 s.limit w c.args.message.now c.in_ok-message.ensures (row_of t) (omega arith)
    (appended_here s t k.number k.within m a (omega arith) w.short ∙ ap (λ (x : List ℕ). row_of s k.number ++ (x ∷ [])) c.in_ok-message.ensures)
    (appended_other s t k.number k.within m a (omega arith) w.short) in
    record { answer = p.0; after = p.1; bound = a.limit }
