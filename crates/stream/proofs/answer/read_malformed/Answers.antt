use Rattle.std.proofs.Common.{[], ◌∷◌, decimal, arith}
use Rattle.stream.specs.Replies.{Placed}
use Rattle.stream.proofs.Exits.{stopped, rest_same}
use Rattle.stream.proofs.answer.read_malformed.Goals as goal

pub returns-in_err-part : goal.returns-in_err-part
returns-in_err-part c =
    stopped (Placed _) c.from_residual.result _ c.from_residual.ensures.1 (
      λ o. absurd (c.in_err-part.ensures.0 o),
      λ s.
          c.in_err-part.ensures.1 s.0 (decimal s.1 ∷ (decimal s.2 ∷ [])) (omega arith) (omega arith) s.6,
    )

pub returns-in_err-cause : goal.returns-in_err-cause
returns-in_err-cause c =
    stopped (Placed _) c.from_residual-in_err-cause.result _ c.from_residual-in_err-cause.ensures.1 (
      λ o. absurd (c.in_err-cause.ensures.0 o),
      λ s.
          c.in_err-cause.ensures.1 s.1 (decimal s.2 ∷ []) (omega arith) (omega arith) (rest_same c.in_ok-part.ensures.1 s.6),
    )

pub returns-in_err-byte : goal.returns-in_err-byte
returns-in_err-byte c =
    stopped (Placed _) c.from_residual-in_err-byte.result _ c.from_residual-in_err-byte.ensures.1 (
      λ o. absurd (c.in_err-byte.ensures.0 o),
      λ s.
          c.in_err-byte.ensures.1 s.2 [] (omega arith) (omega arith) (rest_same c.in_ok-cause.ensures.1 (rest_same c.in_ok-part.ensures.1 s.6)),
    )
