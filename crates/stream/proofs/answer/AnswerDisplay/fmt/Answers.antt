use Rattle.std.proofs.Common.{ℕ, List, [], ◌∷◌, ◌++◌, sym, ap, ◌∙◌, arith}
use Rattle.std.proofs.Output.{has_written_of_eq}
use Rattle.std.proofs.lemmas.Fmt.{decimal_digit}
use Rattle.stream.specs.Replies.{spelled}
use Rattle.stream.proofs.answer.AnswerDisplay.fmt.Goals as goal

pub returns-in-Done-clause-writes : goal.returns-in-Done-clause-writes
returns-in-Done-clause-writes g c plain ok =
    has_written_of_eq _ _ _ _ _ (ap (λ (t : List ℕ). 61 ∷ (32 ∷ (t ++ []))) (sym (decimal_digit 0 (omega arith))) ∙ sym (ap spelled c.in-Done.is))
    (c.write_str.ensures.writes plain ok)
