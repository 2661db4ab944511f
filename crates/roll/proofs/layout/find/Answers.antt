use Rattle.std.proofs.Common.{arith}
use Rattle.roll_records.proofs.Rows.{walk_here, walk_on, walk_stop, walk_end}
use Rattle.roll.proofs.layout.find.Goals as goal

pub size_at-size-requires : goal.size_at-size-requires
size_at-size-requires c =
    let h = walk_here _ _ _ _ _ c.loop-k.invariant (omega arith) in
    omega arith

pub bounds-area-at : goal.bounds-area-at
bounds-area-at c =
    let h = walk_here _ _ _ _ _ c.loop-k.invariant (omega arith) in
    omega arith

pub overflow_add-at-in-loop-k : goal.overflow_add-at-in-loop-k
overflow_add-at-in-loop-k c =
    let h = walk_here _ _ _ _ _ c.loop-k.invariant (omega arith) in
    omega arith

pub returns-then-area-at : goal.returns-then-area-at
returns-then-area-at c = walk_stop _ _ _ _ _ c.loop-k.invariant (omega arith) _ c.size_at-size.ensures c.if-area-at.true c.requires

pub loop-k-preserved : goal.loop-k-preserved
loop-k-preserved c = walk_on _ _ _ _ _ c.loop-k.invariant (omega arith) _ c.size_at-size.ensures c.if-area-at.false

pub returns : goal.returns
returns c = walk_end _ _ _ _ _ c.loop-k.invariant (omega arith)
