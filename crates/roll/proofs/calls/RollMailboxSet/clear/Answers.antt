use Rattle.std.proofs.Common.{◌≡◌, [], set, length, vec_items, refl, ap, ◌∙◌, arith}
use Rattle.std.proofs.lemmas.List.{set-set}
use Rattle.mailbox.specs.Lists.{Lists, clear_after}
use Rattle.mailbox.proofs.Tables.{tabled_set, clear_none, clear_past}
use Rattle.roll_records.specs.Records.{messages, without}
use Rattle.roll_records.proofs.Rows.{decode_length, messages_without}
use Rattle.roll.specs.Meaning.{row, waits, lists_of}
use Rattle.roll.proofs.calls.RollMailboxSet.clear.Goals as goal

pub loop-span-smaller : goal.loop-span-smaller
loop-span-smaller c =
    let s = c.loop-span.self in
    let t = c.close_up.new.self in
    omega (arith, decode_length t.records (vec_items t.area), ap length c.close_up.ensures.rows, c.in-Some.ensures.count)

pub loop-span-preserved : goal.loop-span-preserved
loop-span-preserved c =
    let s = c.loop-span.self in
    let t = c.close_up.new.self in
    let k = c.in-Ok.c in
    let rows = c.close_up.ensures.rows in
    let left = messages k.number (without k.number (row s)) in
    let one_less : lists_of t ≡ set (lists_of s) k.number left = tabled_set (waits s) (waits t) k.number left k.within (ap (messages k.number) rows) (λ d h ne. ap (messages d) rows ∙ messages_without k.number d (row s) ne) in
    record {
      limit = c.close_up.ensures.limit ∙ c.loop-span.invariant.limit;
      cleared = ap (λ (ls : Lists). clear_after ls k.number) one_less ∙ set-set (lists_of s) k.number left [] ∙ c.loop-span.invariant.cleared;
    }

pub returns-in_default-oldest-clause-after : goal.returns-in_default-oldest-clause-after
returns-in_default-oldest-clause-after c =
    let s = c.loop-span.self in
    let k = c.in-Ok.c in
    clear_none (waits s) k k.number refl c.in_default-oldest.ensures
    ∙ c.loop-span.invariant.cleared
    ∙ ap (clear_after (lists_of c.args.self.now)) c.in-Ok.ensures.1

pub returns-in_default-clause-after : goal.returns-in_default-clause-after
returns-in_default-clause-after c = clear_past (waits c.args.self.now) c.args.c c.in_default.ensures
