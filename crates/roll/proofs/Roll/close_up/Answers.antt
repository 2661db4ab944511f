use Rattle.std.proofs.Common.{◌-◌, ◌*◌, ◌≤◌, length, get_or, vec_items, ◌∙◌, arith}
use Rattle.std.proofs.lemmas.List.{length-set}
use Rattle.std.proofs.lemmas.List.Elements.{All-set}
use Rattle.roll_records.proofs.Rows.{take_row, take_sound, take_tallied, fills_at}
use Rattle.roll.proofs.Roll.close_up.Goals as goal

pub invariant_of-self : goal.invariant_of-self
invariant_of-self c =
    let s = c.args.self.now in
    let k = c.args.c in
    let v = c.copy_within.new.self in
    let p = take_row (vec_items s.area) (vec_items v) s.records s.used k.number c.args.span.at c.args.span.size c.requires c.copy_within.ensures.items in
    let i = c.index.result in
    let room : s.limit * 16432 ≤ length (vec_items v) = omega (arith, s.room, c.copy_within.ensures.len, s.area.ok.0, v.ok.0) in
    record {
      most = s.most;
      room = room;
      laid = p.laid;
      ends = p.ends;
      sound = take_sound _ _ _ _ _ c.args.span.at _ p s.sound;
      sixteen = length-set s.counts i _ ∙ s.sixteen;
      tallied = take_tallied _ _ _ _ _ c.args.span.at _ p s.counts i c.index.ensures.is (omega (arith, s.sixteen)) s.tallied c.requires;
      fills = All-set (λ n. n ≤ s.limit) s.counts i (get_or s.counts i 0 - 1) (omega (arith, fills_at s.counts s.limit s.fills i)) s.fills;
    }

pub returns-clause-rows : goal.returns-clause-rows
returns-clause-rows c =
    let s = c.args.self.now in
    (take_row (vec_items s.area) (vec_items c.copy_within.new.self) s.records s.used c.args.c.number c.args.span.at c.args.span.size c.requires c.copy_within.ensures.items).rows
