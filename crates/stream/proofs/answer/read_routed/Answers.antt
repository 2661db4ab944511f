use Rattle.std.proofs.Common.{[], ◌∷◌, decimal, arith}
use Rattle.stream.specs.Replies.{Accepted}
use Rattle.stream.proofs.Exits.{stopped, rest_same}
use Rattle.stream.proofs.answer.read_routed.Goals as goal

pub returns-in_err-placed : goal.returns-in_err-placed
returns-in_err-placed c =
    stopped (Accepted _ _) c.from_residual.result _ c.from_residual.ensures.1 (
      λ o. absurd (c.in_err-placed.ensures.0 o),
      λ ne s.
          c.in_err-placed.ensures.1 s.0 (decimal s.1 ∷ []) (omega arith) (omega arith) s.4,
    )

pub returns-in_err-missed : goal.returns-in_err-missed
returns-in_err-missed c =
    stopped (Accepted _ _) c.from_residual-in_err-missed.result _ c.from_residual-in_err-missed.ensures.1 (
      λ o. absurd (c.in_err-missed.ensures.0 o),
      λ ne s.
          c.in_err-missed.ensures.1 s.1 [] (omega arith) (omega arith) (rest_same c.in_ok-placed.ensures.1 s.4),
    )
