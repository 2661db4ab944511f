-- What holds of the lists of every roll.
use Rattle.std.proofs.Common.{arith}
use Rattle.mailbox.specs.Lists.{Laws}
use Rattle.mailbox.proofs.Tables.{laws_of}
use Rattle.roll_records.proofs.Rows.{fills_at, sized_messages}
use Rattle.roll.specs.Meaning.{row, waits, lists_of, limit_of}

pub laws : Laws lists_of limit_of
laws = laws_of waits limit_of
    (λ s c h. omega (arith, s.tallied c, fills_at s.counts s.limit s.fills c))
    (λ s c h. sized_messages c (row s) s.sound)
