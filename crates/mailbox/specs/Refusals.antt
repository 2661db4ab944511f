-- How a refusal is told.
use Rattle.std.specs.Prelude.{ℕ, List, codes}
use Rattle.mailbox.specs.declared.Refusal.{Refusal}
use Rattle.mailbox.specs.declared.Refusal.TheVariants.{NoMailbox, BadLength, Full, ShortBuffer}

abbrev pub words : Refusal → List ℕ
words NoMailbox = codes "no mailbox"
words BadLength = codes "bad length"
words Full = codes "full"
words ShortBuffer = codes "short buffer"
