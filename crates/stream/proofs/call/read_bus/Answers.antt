use Rattle.std.proofs.Common.{[], ◌∷◌, length, vec_items, ap, ◌∙◌, arith}
use Rattle.stream.specs.Spelling.{hex}
use Rattle.stream.proofs.Pairs.{same_length}
use Rattle.stream.specs.Calls.{Arguments}
use Rattle.stream.proofs.Exits.{no_argument, stopped, same_number, rest_same, second_same}
use Rattle.stream.proofs.call.read_bus.Goals as goal

pub returns-in_err-limit : goal.returns-in_err-limit
returns-in_err-limit c =
    no_argument _ _ c.from_residual.result c.from_residual.ensures.1 c.in_err-limit.ensures (λ s. (s.0, (hex s.1 ∷ []), omega arith, omega arith, s.5))

pub returns-then-limit-gt16 : goal.returns-then-limit-gt16
returns-then-limit-gt16 c = (
  λ _. tt,
  λ _ s. omega (arith, c.if-limit-gt16.true, same_number c.in_ok-limit.limit s.0 (omega (arith, c.in_ok-limit.ensures.0)) (omega arith) c.in_ok-limit.ensures.1 s.5),
)

pub returns-in_err-bytes : goal.returns-in_err-bytes
returns-in_err-bytes c =
    stopped (Arguments _ _) c.from_residual-in_err-bytes.result _ c.from_residual-in_err-bytes.ensures.1 (
      λ _. tt,
      λ ne s.
          c.in_err-bytes.ensures ne s.1 [] s.4 (rest_same c.in_ok-limit.ensures.1 s.5),
    )

pub returns : goal.returns
returns c = (
  λ _. tt,
  λ _ s.
      let d = second_same c.in_ok-limit.ensures.1 c.in_ok-bytes.ensures.1 s.5 in
      c.in-Err.ensures.1 (ap length c.as_slice.ensures.value ∙ same_length (vec_items c.in_ok-bytes.bytes) s.1 d ∙ s.3),
)
