use Rattle.std.proofs.Common.{◌≡◌, ℕ, ◌<◌, length, get_or, sym, ap, ◌∙◌, rules}
use Rattle.order.specs.Numbers.{Byte, number, bytes_of}
use Rattle.order.specs.Spreads.{all_from}
use Rattle.order.proofs.Trips.{read_written}
use Rattle.order.proofs.rewrite.Goals as goal

pub returns : goal.returns
returns g c =
    let o = g.O.ByteOrder.ordered in
    let met = g.met.O.ByteOrder in
    let xs = c.args.bytes in
    let long : length xs ≡ 8 = search rules in
    let fit : (k : ℕ) → get_or xs k 0 < 256 = search rules in
    c.bytes_of_u64.ensures
    ∙ ap (λ n. o (bytes_of 8 n)) c.u64_of.ensures
    ∙ ap (λ n. o (bytes_of n (number (o xs)))) (sym (met.size xs ∙ long))
    ∙ ap o (read_written (o xs) (met.bytes xs (all_from Byte xs fit)))
    ∙ met.twice xs
