use Rattle.std.proofs.Common.{◌≡◌}
use Rattle.mailbox.specs.Lists.{clear_after}
use Rattle.roll.specs.Meaning.{lists_of}
use Rattle.roll.proofs.calls.RollMailboxSet.clear.Given as goal

-- what is left is cleared to what was there, cleared
abbrev pub invariant-loop-span : goal.invariant-loop-span
invariant-loop-span l = record {
  limit : l.self.limit ≡ l.initial.self.limit;
  cleared : clear_after (lists_of l.self) l.c.number ≡ clear_after (lists_of l.initial.self) l.c.number;
}

abbrev pub decreases-loop-span : goal.decreases-loop-span
decreases-loop-span l = l.self.records
