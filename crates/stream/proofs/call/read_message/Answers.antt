use Rattle.std.proofs.Common.{[], ◌∷◌, arith}
use Rattle.stream.specs.Spelling.{hex}
use Rattle.stream.specs.Calls.{Arguments}
use Rattle.stream.proofs.Exits.{no_argument, stopped, rest_same}
use Rattle.stream.proofs.call.read_message.Goals as goal

pub returns-in_err-connection : goal.returns-in_err-connection
returns-in_err-connection c =
    no_argument _ _ c.from_residual.result c.from_residual.ensures.1 c.in_err-connection.ensures (λ s. (s.0, (hex s.1 ∷ []), omega arith, omega arith, s.4))

pub returns-in_err-bytes : goal.returns-in_err-bytes
returns-in_err-bytes c =
    stopped (Arguments _ _) c.from_residual-in_err-bytes.result _ c.from_residual-in_err-bytes.ensures.1 (
      λ _. tt,
      λ ne s.
          c.in_err-bytes.ensures ne s.1 [] s.3 (rest_same c.in_ok-connection.ensures.1 s.4),
    )
