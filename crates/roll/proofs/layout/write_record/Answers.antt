use Rattle.std.proofs.Common.{ℕ, List, ◌++◌, sym, ap, ◌∙◌, ap₂, arith}
use Rattle.area.specs.Writes.{written}
use Rattle.area.proofs.Joins.{stored, written_twice}
use Rattle.roll.proofs.layout.write_record.Goals as goal

pub returns-clause-after : goal.returns-clause-after
returns-clause-after c =
    let area = c.args.area.now in
    let at = c.args.at in
    let m = c.args.message.bytes.now in
    let bytes = c.head_for.result in
    let first = stored area bytes at c.unwrap-from.result (sym c.store.ensures.end ∙ c.unwrap-from.ensures) in
    let second = stored c.store.new.area m c.unwrap-from.result c.unwrap.result (sym c.store-2.ensures.end ∙ c.unwrap.ensures) in
    c.store-2.ensures.after ∙ second.2
    ∙ ap₂ (λ (xs : List ℕ) (k : ℕ). written xs k m) (c.store.ensures.after ∙ first.2) first.0
    ∙ written_twice area bytes m at (omega arith)
    ∙ ap (λ (xs : List ℕ). written area at (xs ++ m)) c.head_for.ensures
