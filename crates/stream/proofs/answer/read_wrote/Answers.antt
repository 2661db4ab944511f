use Rattle.std.proofs.Common.{[], ◌∷◌, length, vec_items, sym, refl, ◌∙◌, arith}
use Rattle.stream.specs.Spelling.{hex}
use Rattle.stream.proofs.Pairs.{same_length}
use Rattle.stream.specs.Replies.{Accepted}
use Rattle.stream.proofs.Exits.{stopped, same_number, rest_same, second_same}
use Rattle.stream.proofs.answer.read_wrote.Goals as goal

pub returns-in_err-count : goal.returns-in_err-count
returns-in_err-count c =
    stopped (Accepted _ _) c.from_residual.result _ c.from_residual.ensures.1 (
      λ o. absurd (c.in_err-count.ensures.0 o),
      λ ne s.
          c.in_err-count.ensures.1 (length s.0) (hex s.0 ∷ []) (omega arith) (omega arith) s.3,
    )

pub returns-in_err-bytes : goal.returns-in_err-bytes
returns-in_err-bytes c =
    stopped (Accepted _ _) c.from_residual-in_err-bytes.result _ c.from_residual-in_err-bytes.ensures.1 (
      λ _. refl,
      λ ne s.
          c.in_err-bytes.ensures ne s.0 [] s.2 (rest_same c.in_ok-count.ensures.1 s.3),
    )

pub returns-else-len-from : goal.returns-else-len-from
returns-else-len-from c = (
  λ _. refl,
  λ _ s.
      let e = c.in_ok-count.ensures in
      let d = same_number c.in_ok-count.count (length s.0) (omega (arith, e.0)) (omega arith) e.1 s.3 in
      let l = same_length (vec_items c.in_ok-bytes.bytes) s.0 (second_same e.1 c.in_ok-bytes.ensures.1 s.3) in
      c.if-len-from.false (c.len.ensures ∙ c.in_ok-bytes.bytes.ok.0 ∙ l ∙ sym d ∙ sym c.from.ensures),
)
