use Rattle.std.proofs.Common.{◌≡◌, ◌++◌, codes, take}
use Rattle.hex_digits.specs.Hex.{pairs}
use Rattle.handshake.proofs.reply.Reply.text.Given as goal

abbrev pub invariant-loop-byte : goal.invariant-loop-byte
invariant-loop-byte l = l.text.items ≡ codes "OK " ++ pairs (take l.byte-index l.id)
