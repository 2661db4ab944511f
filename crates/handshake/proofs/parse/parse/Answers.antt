use Rattle.std.proofs.Common.{rules}
use Rattle.handshake.proofs.Reading.{unknown_line}
use Rattle.handshake.proofs.parse.parse.Goals as goal

pub returns-in_default : goal.returns-in_default
returns-in_default c = search (rules, unknown_line)
