use Rattle.std.proofs.Common.{◌+◌, ◌*◌, length}
use Rattle.signature.proofs.grammar.+complete_element_entry_members.Given as goal

abbrev pub decreases-complete : goal.decreases-complete
decreases-complete l = 4 * length l.s.now

abbrev pub decreases-element : goal.decreases-element
decreases-element l = 4 * length l.s.now + 1

abbrev pub decreases-entry : goal.decreases-entry
decreases-entry l = 4 * length l.s.now

abbrev pub decreases-members : goal.decreases-members
decreases-members l = 4 * length l.s.now + 2
