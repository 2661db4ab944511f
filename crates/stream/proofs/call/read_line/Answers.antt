use Rattle.std.proofs.Common.{[], ◌∷◌, decimal, arith}
use Rattle.stream.specs.Spelling.{hex}
use Rattle.stream.specs.Calls.{Arguments}
use Rattle.stream.proofs.Exits.{no_argument, stopped, rest_same}
use Rattle.stream.proofs.call.read_line.Goals as goal

pub returns-in_err-connection : goal.returns-in_err-connection
returns-in_err-connection c =
    no_argument _ _ c.from_residual.result c.from_residual.ensures.1 c.in_err-connection.ensures (λ s. (s.0, (hex s.1 ∷ (decimal s.2 ∷ [])), omega arith, omega arith, s.6))

pub returns-in_err-bytes : goal.returns-in_err-bytes
returns-in_err-bytes c =
    stopped (Arguments _ _) c.from_residual-in_err-bytes.result _ c.from_residual-in_err-bytes.ensures.1 (
      λ _. tt,
      λ ne s.
          c.in_err-bytes.ensures ne s.1 (decimal s.2 ∷ []) s.4 (rest_same c.in_ok-connection.ensures.1 s.6),
    )

pub returns-in_err-size : goal.returns-in_err-size
returns-in_err-size c =
    no_argument _ _ c.from_residual-in_err-size.result c.from_residual-in_err-size.ensures.1 c.in_err-size.ensures (λ s. (s.2, [], omega arith, omega arith, (rest_same c.in_ok-bytes.ensures.1 (rest_same c.in_ok-connection.ensures.1 s.6))))
