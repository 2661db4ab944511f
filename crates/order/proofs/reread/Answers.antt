use Rattle.std.proofs.Common.{sym, ap, ◌∙◌}
use Rattle.order.specs.Numbers.{number, bytes_of}
use Rattle.order.proofs.Trips.{read_written, written_read}
use Rattle.order.proofs.reread.Goals as goal

pub returns-clause-law : goal.returns-clause-law
returns-clause-law g c =
    let o = g.O.ByteOrder.ordered in
    let met = g.met.O.ByteOrder in
    record {
      reads_back = λ n x h. ap number (met.twice (bytes_of n x)) ∙ written_read n x h;
      writes_back = λ xs all.
          ap (λ n. o (bytes_of n (number (o xs)))) (sym (met.size xs))
          ∙ ap o (read_written (o xs) (met.bytes xs all))
          ∙ met.twice xs;
    }
