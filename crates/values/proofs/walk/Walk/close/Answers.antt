use Rattle.std.proofs.Common.{arith}
use Rattle.values.proofs.Passes.{struct_in, top_moves, struct_moves, struct_leaves, array_moves, array_leaves, variant_leaves}
use Rattle.values.proofs.walk.Walk.close.Goals as goal

pub bounds-self-self : goal.bounds-self-self
bounds-self-self c = struct_in c.args.self.now c.requires.past (cc) c.requires.here

pub returns-in-None : goal.returns-in-None
returns-in-None c o = top_moves o c.args.self.now c.requires.past (cc) c.requires.more (omega arith)

pub returns-then-matches : goal.returns-then-matches
returns-then-matches c o = struct_leaves o c.args.self.now c.requires.past c.pop.new.self c.pop.ensures.rest (cc) (grind arith) (omega arith)

pub returns-else-matches : goal.returns-else-matches
returns-else-matches c o = struct_moves o c.args.self.now c.requires.past (cc) (grind arith) (grind arith) (omega arith)

pub returns-then-self : goal.returns-then-self
returns-then-self c o = array_moves o c.args.self.now c.requires.past c.in-Some-Array.element c.in-Some-Array.outer (cc) c.if-self.true (omega arith)

pub returns-else-self : goal.returns-else-self
returns-else-self c o = array_leaves o c.args.self.now c.requires.past c.pop-else-self.new.self c.pop-else-self.ensures.rest c.in-Some-Array.element c.in-Some-Array.outer (cc) c.if-self.false (omega arith)

pub returns-in-Some-Variant : goal.returns-in-Some-Variant
returns-in-Some-Variant c o = variant_leaves o c.args.self.now c.requires.past c.pop-in-Some-Variant.new.self c.pop-in-Some-Variant.ensures.rest c.in-Some-Variant.codes (cc) (omega arith)
