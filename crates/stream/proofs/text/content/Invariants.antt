use Rattle.std.proofs.Common.{◌≡◌, ℕ, ◌<◌, ◌≤◌, length, get_or, take}
use Rattle.stream.proofs.text.content.Given as goal

abbrev pub invariant-loop-text : goal.invariant-loop-text
invariant-loop-text l =
    record {
      front : l.text ≡ take (length l.text) l.row;
      fits : length l.text ≤ l.mark;
      spaces : (k : ℕ) → length l.text ≤ k → k < l.mark → get_or l.row k 0 ≡ 32;
    }

abbrev pub decreases-loop-text : goal.decreases-loop-text
decreases-loop-text l = length l.text
