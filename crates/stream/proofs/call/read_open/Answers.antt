use Rattle.std.proofs.Common.{[], ◌∷◌, decimal, arith}
use Rattle.stream.proofs.Exits.{no_argument, rest_same}
use Rattle.stream.proofs.call.read_open.Goals as goal

pub returns-in_err-connection : goal.returns-in_err-connection
returns-in_err-connection c =
    no_argument _ _ c.from_residual.result c.from_residual.ensures.1 c.in_err-connection.ensures (λ s. (s.0, (decimal s.1 ∷ []), omega arith, omega arith, s.4))

pub returns-in_err-uid : goal.returns-in_err-uid
returns-in_err-uid c =
    no_argument _ _ c.from_residual-in_err-uid.result c.from_residual-in_err-uid.ensures.1 c.in_err-uid.ensures (λ s. (s.1, [], omega arith, omega arith, (rest_same c.in_ok-connection.ensures.1 s.4)))
