use Rattle.std.proofs.Common.{◌≡◌, ℕ, ◌+◌, List, [], ◌∷◌, ◌++◌, map, drop, Err, Result, sym, refl, ap, subst, inl, inr, rules}
use Rattle.handshake.specs.declared.machine.State.{State}
use Rattle.handshake.specs.declared.machine.Refusal.{Refusal}
use Rattle.handshake.specs.declared.machine.Refusal.TheVariants.{EarlyBegin}
use Rattle.handshake.specs.Law.{Exchange, exchanged, said, Conversation}
use Rattle.handshake.proofs.Covering.{one_more, all_of_them, and_the_rest}
use Rattle.handshake.proofs.Laws.{law}
use Rattle.handshake.proofs.conversation.converse.Goals as goal

-- the conversation so far, with this line and its answer
further : (id : List ℕ) (u uid : ℕ) (s t : State) (xs : List Exchange) (x : Exchange) → u ≡ uid → Conversation id uid xs s → ((ys : List Exchange) → Conversation id u ys s → Conversation id u (ys ++ (x ∷ [])) t) → Conversation id uid (xs ++ (x ∷ [])) t
further id u uid s t xs x e told g =
    subst (λ (v : ℕ). Conversation id v (xs ++ (x ∷ [])) t) e (g xs (subst (λ (v : ℕ). Conversation id v xs s) (sym e) told))

pub returns-then-eq-clause-law : goal.returns-then-eq-clause-law
returns-then-eq-clause-law c =
    let early : c.line-answer.result ≡ Err EarlyBegin = search rules in
    let id : List ℕ = c.args.id.now in
    let lines = c.args.lines.now in
    let i : ℕ = c.loop-line.line-index in
    let inv = c.loop-line.invariant in
    let xs : List Exchange = inv.2.0 in
    let x : Exchange = exchanged _ c.loop-line.buffer c.line-answer.result c.line-answer.new.out in
    let more = further id _ c.args.uid _ _ xs x inv.1 inv.2.2 c.line-answer.ensures.grows in
    let covered = one_more lines i xs inv.2.1 _ x c.loop-line-test.true refl in
    let ended = ap (λ (r : Result ℕ Refusal). said r c.line-answer.new.out) early in (
      xs ++ (x ∷ []),
      inr (map (λ x. x.now) (drop (i + 1) lines), and_the_rest lines (i + 1) (xs ++ (x ∷ [])) covered, (xs, x, refl, ended)),
      more,
      law id c.args.uid (xs ++ (x ∷ [])) c.line-answer.new.self.state more,
    )

pub returns-clause-law : goal.returns-clause-law
returns-clause-law c =
    let inv = c.loop-line.invariant in
    let xs : List Exchange = inv.2.0 in (
      xs,
      inl (all_of_them c.args.lines.now c.loop-line.line-index xs inv.2.1 c.loop-line-test.false),
      inv.2.2,
      law c.args.id.now c.args.uid xs c.loop-line.handshake.state inv.2.2,
    )
