use Rattle.std.proofs.Common.{◌≡◌, ℕ, ◌<◌, reverse, length, get_or, sym, ap, ◌∙◌, rules}
use Rattle.order.specs.Numbers.{Byte, number, bytes_of}
use Rattle.order.specs.Spreads.{all_from}
use Rattle.order.proofs.Trips.{read_written}
use Rattle.order.proofs.mirrored.Goals as goal

pub returns-clause-value : goal.returns-clause-value
returns-clause-value c =
    let xs = c.args.bytes in
    let long : length xs ≡ 8 = search rules in
    let fit : (k : ℕ) → get_or xs k 0 < 256 = search rules in
    c.bytes_of_u64.ensures
    ∙ ap (λ n. reverse (bytes_of 8 n)) c.u64_of.ensures
    ∙ ap (λ n. reverse (bytes_of n (number xs))) (sym long)
    ∙ ap reverse (read_written xs (all_from Byte xs fit))
