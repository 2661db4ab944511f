use Rattle.std.proofs.Common.{ℕ, List, [], ◌∷◌, ◌++◌, sym, refl, ap, ◌∙◌, arith}
use Rattle.std.proofs.lemmas.Bool.{leb-true, leb-false}
use Rattle.mailbox.proofs.Tables.{put_full, put_done}
use Rattle.roll_records.specs.Records.{messages}
use Rattle.roll_records.proofs.Rows.{messages_put_here, messages_put_other}
use Rattle.roll.specs.Meaning.{row, waits}
use Rattle.roll.proofs.calls.RollMailboxSet.put.Goals as goal

pub returns-then-is_full : goal.returns-then-is_full
returns-then-is_full c =
    let s = c.args.self.now in
    let k = c.in_ok-c.c in
    let full = leb-true s.limit _ (sym c.is_full.ensures ∙ c.if-is_full.true) in
    let p = put_full (waits s) k c.args.c c.in_ok-c.ensures.1 s.limit c.in_ok-message.message c.args.message.now c.in_ok-message.ensures (omega (arith, s.tallied k.number)) in
    record { answer = p.0; after = p.1; bound = refl }

pub returns : goal.returns
returns c =
    let s = c.args.self.now in
    let k = c.in_ok-c.c in
    let w = c.in_ok-message.message in
    let rows = c.append.ensures.rows in
    let free = leb-false s.limit _ (sym c.is_full.ensures ∙ c.if-is_full.false) in
    let p = put_done (waits s) k c.args.c c.in_ok-c.ensures.1 s.limit w c.args.message.now c.in_ok-message.ensures (waits c.append.new.self) (omega (arith, s.tallied k.number))
    (ap (messages k.number) rows ∙ messages_put_here (row s) k.number w.bytes.now ∙ ap (λ (x : List ℕ). waits s k.number ++ (x ∷ [])) c.in_ok-message.ensures)
    (λ d h ne. ap (messages d) rows ∙ messages_put_other (row s) k.number d w.bytes.now ne) in
    record { answer = p.0; after = p.1; bound = c.append.ensures.limit }
