-- Which values of fields are judged by a number of 32 bits at their front.
use Rattle.std.specs.Prelude.{Bool, true, false, Some, None, Option}
use Rattle.fields.specs.declared.known.Field.{Field}
use Rattle.fields.specs.declared.known.Field.TheVariants.{Path, Interface, Member, ErrorName, ReplySerial, Destination, Sender, Signature}

-- the length of a name, and a serial
abbrev pub has_word : Option Field → Bool
has_word None = false
has_word (Some Path) = false
has_word (Some Interface) = true
has_word (Some Member) = true
has_word (Some ErrorName) = true
has_word (Some ReplySerial) = true
has_word (Some Destination) = true
has_word (Some Sender) = true
has_word (Some Signature) = false
