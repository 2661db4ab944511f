use Rattle.std.proofs.Common.{◌≡◌, ℕ, ◌*◌, ◌<◌, ◌≤◌, List, ◌++◌, length, get_or, vec_items, sym, ap, ◌∙◌, arith}
use Rattle.std.specs.Vec.{with_items}
use Rattle.std.proofs.lemmas.List.{length-set, with_items_is}
use Rattle.std.proofs.lemmas.List.Elements.{All-set}
use Rattle.area.specs.Writes.{written}
use Rattle.roll_records.specs.Records.{head}
use Rattle.roll_records.proofs.Rows.{Put, put_row, put_sound, put_tallied, room_for, few, decode_length}
use Rattle.roll.specs.declared.Roll.{Roll}
use Rattle.roll.specs.Meaning.{row}
use Rattle.roll.proofs.Roll.append.Goals as goal

pub write_record-self-requires : goal.write_record-self-requires
write_record-self-requires c =
    let s = c.args.self.now in
    let r = room_for (row s) s.counts s.limit c.args.c.number s.sixteen s.sound s.tallied s.fills c.args.c.within c.requires in
    omega (arith, s.ends, s.room, c.args.message.short, ap length c.deref_mut.ensures.value)

pub overflow_add-self : goal.overflow_add-self
overflow_add-self c =
    let s = c.args.self.now in
    omega (arith, few (row s) s.counts s.limit s.sixteen s.sound s.tallied s.fills, s.most, decode_length s.records (vec_items s.area))

-- the area with a record behind the last
longer : (s : Roll) (c : ℕ) (m lent ws : List ℕ) → lent ≡ vec_items s.area → length ws ≡ length lent → ws ≡ written lent s.used (head c m ++ m) → Put (vec_items s.area) (vec_items (with_items s.area ws)) s.records s.used c m
longer s c m lent ws e all is =
    put_row (vec_items s.area) _ s.records s.used c m s.laid s.ends
    (with_items_is s.area ws (omega (arith, ap length e, s.area.ok.0)) ∙ is ∙ ap (λ (xs : List ℕ). written xs s.used (head c m ++ m)) e)

pub invariant_of-self : goal.invariant_of-self
invariant_of-self c =
    let s = c.args.self.now in
    let k = c.args.c in
    let w = c.args.message in
    let ws = c.write_record-self.new.area in
    let v = with_items s.area ws in
    let p = longer s k.number w.bytes.now c.deref_mut.result.now ws c.deref_mut.ensures.value (omega arith) c.write_record-self.ensures.after in
    let i = c.index.result in
    let room : s.limit * 16432 ≤ length (vec_items v) = omega (arith, s.room, s.area.ok.0, v.ok.0) in
    let free : get_or s.counts i 0 < s.limit = rw c.index.ensures.is c.requires in
    record {
      most = s.most;
      room = room;
      laid = p.laid;
      ends = p.ends ∙ sym c.write_record-self.ensures.end;
      sound = put_sound _ _ _ _ _ _ p s.sound (k.within, w.some, w.short);
      sixteen = length-set s.counts i _ ∙ s.sixteen;
      tallied = put_tallied _ _ _ _ _ _ p s.counts i c.index.ensures.is (omega (arith, s.sixteen)) s.tallied;
      fills = All-set (λ n. n ≤ s.limit) s.counts i _ (omega arith) s.fills;
    }

pub returns-clause-rows : goal.returns-clause-rows
returns-clause-rows c =
    let s = c.args.self.now in
    (longer s c.args.c.number c.args.message.bytes.now c.deref_mut.result.now c.write_record-self.new.area c.deref_mut.ensures.value (omega arith) c.write_record-self.ensures.after).rows
