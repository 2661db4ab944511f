use Rattle.std.proofs.Common.{ℕ, List, ◌∷◌, sym, ap, ◌∙◌}
use Rattle.stream.specs.Text.{left}
use Rattle.stream.proofs.Rows.{by_words}
use Rattle.stream.proofs.call.read_call.Goals as goal

pub returns : goal.returns
returns c =
    let e = rw c.in_ok-word.ensures.ok_part at c.next.ensures.steps in
    by_words c.args.row.now c.in_ok-try_from.field-0 (left c.next.new.self) c.read_arguments.result
    (sym c.new-words.ensures ∙ e ∙ ap (λ (w : List ℕ). w ∷ left c.next.new.self) c.in_ok-try_from.ensures)
    c.read_arguments.ensures
