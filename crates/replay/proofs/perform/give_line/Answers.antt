use Rattle.std.proofs.Common.{◌≡◌, ℕ, List, length, take, ap, ◌∙◌}
use Rattle.std.proofs.lemmas.List.{with_items_is}
use Rattle.lives.specs.Calls.{Table, Done, lined}
use Rattle.stream.specs.Replies.{wrote, refused}
use Rattle.replay.specs.Outcomes.{wrote_or_refused}
use Rattle.replay.proofs.Buffers.{counted_back, refused_back}
use Rattle.replay.proofs.perform.give_line.Goals as goal

pub returns-in-Ok : goal.returns-in-Ok
returns-in-Ok c =
    let t : Table = c.args.lives.now.table in
    let id : List ℕ = c.args.lives.now.id in
    let line : List ℕ = c.args.line.now in
    let out : List ℕ = c.as_mut_slice.result.now in
    let given : ℕ → Done (List ℕ) = λ n. lined t id c.args.c line n in
    let size : length out ≡ c.args.size =
    c.as_mut_slice.ensures.len ∙ c.in_ok-buffer.ensures.len ∙ c.from.ensures
    in
    let long : length c.line.new.out ≡ c.in_ok-buffer.buffer.len = c.line.auto.out ∙ c.as_mut_slice.ensures.len in
    let whole = with_items_is c.in_ok-buffer.buffer c.line.new.out long in
    record {
      answer =
          ap wrote (c.truncate.ensures.items ∙ ap (take c.in-Ok.count) (whole ∙ c.line.ensures.buffer))
          ∙ counted_back out (given (length out)).answer c.in-Ok.count c.in-Ok.ensures.answer
          ∙ ap (λ (n : ℕ). wrote_or_refused (given n).answer) size;
      after = c.line.ensures.lives ∙ ap (λ (n : ℕ). (given n).lives) size;
      id = c.line.ensures.id;
    }

pub returns-in-Err : goal.returns-in-Err
returns-in-Err c =
    let t : Table = c.args.lives.now.table in
    let id : List ℕ = c.args.lives.now.id in
    let line : List ℕ = c.args.line.now in
    let out : List ℕ = c.as_mut_slice.result.now in
    let given : ℕ → Done (List ℕ) = λ n. lined t id c.args.c line n in
    let size : length out ≡ c.args.size =
    c.as_mut_slice.ensures.len ∙ c.in_ok-buffer.ensures.len ∙ c.from.ensures
    in
    record {
      answer =
          ap refused c.from-in-Err.ensures
          ∙ refused_back out (given (length out)).answer c.in-Err.refusal c.in-Err.ensures.answer
          ∙ ap (λ (n : ℕ). wrote_or_refused (given n).answer) size;
      after = c.line.ensures.lives ∙ ap (λ (n : ℕ). (given n).lives) size;
      id = c.line.ensures.id;
    }
