use Rattle.std.proofs.Common.{ℕ, refl, lit<, lit≤}
use Rattle.std.proofs.lemmas.List.{get_or-replicate}
use Rattle.shelf.proofs.Queues.{none_wait}
use Rattle.shelf.proofs.places.Shelf.over.Goals as goal

pub invariant_of-result-clause-sized : goal.invariant_of-result-clause-sized
invariant_of-result-clause-sized c = λ k d h. rw (get_or-replicate {A = ℕ} 256 k 1 d h) (lit< tt, lit≤ tt)

pub returns-clause-empty : goal.returns-clause-empty
returns-clause-empty c = none_wait _ (record { head = 0; count = 0 }) _ _ refl
