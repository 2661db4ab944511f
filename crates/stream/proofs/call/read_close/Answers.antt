use Rattle.std.proofs.Common.{[], arith}
use Rattle.stream.proofs.Exits.{no_argument}
use Rattle.stream.proofs.call.read_close.Goals as goal

pub returns-in_err-connection : goal.returns-in_err-connection
returns-in_err-connection c =
    no_argument _ _ c.from_residual.result c.from_residual.ensures.1 c.in_err-connection.ensures (λ s. (s.0, [], omega arith, omega arith, s.2))
