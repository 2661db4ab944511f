use Rattle.std.proofs.Common.{◌≡◌, List, map, length, take}
use Rattle.handshake.specs.Law.{Exchange, Conversation, spoken}
use Rattle.handshake.proofs.conversation.converse.Given as goal

abbrev pub invariant-loop-line : goal.invariant-loop-line
invariant-loop-line l =
    (length l.buffer ≡ 37)
    × (l.handshake.uid ≡ l.uid)
    × ((xs : List Exchange) × (map spoken xs ≡ map (λ x. x.now) (take l.line-index l.lines)) × Conversation l.id l.uid xs l.handshake.state)
