use Rattle.std.proofs.Common.{ℕ, ◌+◌, List, ◌∷◌, length, take, sym, ap, ◌∙◌, arith}
use Rattle.std.proofs.lemmas.List.{take_rest}
use Rattle.stream.specs.Text.{cut, cut_of}
use Rattle.stream.proofs.Cuts.{cut_at, cut_last}
use Rattle.stream.proofs.words.WordsIterator.next.Goals as goal

pub returns-in-Some-clause-steps : goal.returns-in-Some-clause-steps
returns-in-Some-clause-steps c =
    let text = c.in_ok-text.text.now in
    let end = c.in-Some.end in
    let f = c.in-Some.ensures in
    ap cut_of c.in_ok-text.was ∙ cut_at text end f.0 f.2 f.1 ∙ ap (λ (t : List ℕ). take end text ∷ cut t) (sym (take_rest text (end + 1)))

pub returns-in-Some-clause-goes : goal.returns-in-Some-clause-goes
returns-in-Some-clause-goes c =
    let text = c.in_ok-text.text.now in
    let end = c.in-Some.end in
    let f = c.in-Some.ensures in
    let e = ap cut_of c.in_ok-text.was ∙ cut_at text end f.0 f.2 f.1 ∙ ap (λ (t : List ℕ). take end text ∷ cut t) (sym (take_rest text (end + 1))) in
    record {
      on = λ _. (tt, tt, omega (arith, ap length e));
      keeps = tt;
      rests = λ _. tt;
    }

pub returns-in-None-clause-steps : goal.returns-in-None-clause-steps
returns-in-None-clause-steps c = ap cut_of c.in_ok-text.was ∙ cut_last c.in_ok-text.text.now c.in-None.ensures
