use Rattle.std.proofs.Common.{◌≡◌, ℕ, ◌+◌, List, ◌∷◌, length, take, drop, vec_items, Ok, sym, refl, ap, ◌∙◌, arith}
use Rattle.area.proofs.Joins.{stored, not_stored, written_front}
use Rattle.mailbox.proofs.Tables.{take_past, take_none, take_short, take_done}
use Rattle.roll_records.specs.Records.{Record, messages, without, First}
use Rattle.roll_records.proofs.Rows.{messages_without}
use Rattle.roll.specs.declared.Roll.{Roll}
use Rattle.roll.specs.Meaning.{row, waits}
use Rattle.roll.proofs.calls.RollMailboxSet.take.Goals as goal

pub returns-in_default : goal.returns-in_default
returns-in_default c =
    let d = take_past (waits c.args.self.now) c.args.c c.args.buffer.now c.in_default.ensures in
    record { answer = d.0; after = d.1; buffer = d.2; bound = refl }

pub returns-in_default-oldest : goal.returns-in_default-oldest
returns-in_default-oldest c =
    let d = take_none (waits c.args.self.now) c.in-Ok.c c.args.c c.in-Ok.ensures.1 c.args.buffer.now c.in_default-oldest.ensures in
    record { answer = d.0; after = d.1; buffer = d.2; bound = refl }

-- the oldest message, as it was read
first : (s : Roll) (c at size : ℕ) (area m : List ℕ) → First (vec_items s.area) s.records s.used c at size → area ≡ vec_items s.area → m ≡ take size (drop (at + 3) area) → waits s c ≡ m ∷ messages c (without c (row s))
first s c at size area m f e is = f.oldest ∙ ap (λ (x : List ℕ). x ∷ messages c (without c (row s))) (sym (is ∙ ap (λ (xs : List ℕ). take size (drop (at + 3) xs)) e))

pub returns-in_default-store : goal.returns-in_default-store
returns-in_default-store c =
    let s = c.args.self.now in
    let k = c.in-Ok.c in
    let m = c.message_of.result.now in
    let b = c.args.buffer.now in
    let n = not_stored b m 0 (sym c.in_default-store.ensures.end) in
    let is = first s k.number _ _ _ m c.in-Some.ensures c.deref.ensures.value c.message_of.ensures in
    let d = take_short (waits s) k c.args.c c.in-Ok.ensures.1 b m _ is (omega arith) in
    record { answer = d.0; after = d.1; buffer = c.store.ensures.after ∙ n.1 ∙ d.2; bound = refl }

pub returns : goal.returns
returns c =
    let s = c.args.self.now in
    let t = c.close_up.new.self in
    let k = c.in-Ok.c in
    let m = c.message_of.result.now in
    let b = c.args.buffer.now in
    let rows = c.close_up.ensures.rows in
    let n = stored b m 0 c.in-Some-store.size (sym c.in-Some-store.ensures.end) in
    let size : c.in-Some-store.size ≡ length m = omega arith in
    let is = first s k.number _ _ _ m c.in-Some.ensures c.deref.ensures.value c.message_of.ensures in
    let d = take_done (waits s) k c.args.c c.in-Ok.ensures.1 b (waits t) m
    (is ∙ ap (λ (rs : List Record). m ∷ messages k.number rs) (sym rows)) (omega arith)
    (λ d h ne. ap (messages d) rows ∙ messages_without k.number d (row s) ne) in
    record { answer = ap Ok size ∙ d.0; after = d.1; buffer = c.store.ensures.after ∙ n.2 ∙ written_front b m ∙ d.2; bound = c.close_up.ensures.limit }
