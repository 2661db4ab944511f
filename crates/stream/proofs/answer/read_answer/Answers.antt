use Rattle.std.proofs.Common.{◌≡◌, ℕ, List, [], ◌∷◌, sym, ap, ◌∙◌, rules}
use Rattle.std.proofs.lemmas.Slice.Eq.{text_from_reads}
use Rattle.stream.specs.Text.{left}
use Rattle.stream.proofs.Marks.{by_accepted, by_refused}
use Rattle.stream.proofs.answer.read_answer.Goals as goal

pub returns-in-61 : goal.returns-in-61
returns-in-61 c =
    let e : c.in_ok-mark.mark.now ≡ 61 ∷ [] = search (rules, text_from_reads) in
    by_accepted c.args.form c.args.row.now (left c.next.new.self) c.read_accepted.result
    (sym c.new-words.ensures ∙ (rw c.in_ok-mark.ensures.ok_part at c.next.ensures.steps) ∙ ap (λ (w : List ℕ). w ∷ left c.next.new.self) e)
    c.read_accepted.ensures

pub returns-in-33 : goal.returns-in-33
returns-in-33 c =
    let e : c.in_ok-mark.mark.now ≡ 33 ∷ [] = search (rules, text_from_reads) in
    by_refused c.args.form c.args.row.now (left c.next.new.self) c.read_refused.result
    (sym c.new-words.ensures ∙ (rw c.in_ok-mark.ensures.ok_part at c.next.ensures.steps) ∙ ap (λ (w : List ℕ). w ∷ left c.next.new.self) e)
    c.read_refused.ensures
