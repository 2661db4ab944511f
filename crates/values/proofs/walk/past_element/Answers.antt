use Rattle.std.proofs.Common.{◌≡◌, ℕ, ◌+◌, List, drop, MatchOption, Option, Some, None, unwrap_or, sym, ◌∙◌, arith, drop-drop}
use Rattle.std.proofs.lemmas.List.{take_rest}
use Rattle.signature.specs.Trees.{Element, spell_element, ElementEnds}
use Rattle.signature.proofs.Spellings.{once_element}
use Rattle.signature.proofs.Fronts.{element_ends}
use Rattle.values.proofs.walk.past_element.Goals as goal

-- the element that was found is the only one there
past : (b : List ℕ) (from : ℕ) (found : Option ℕ) → MatchOption found ((n : ℕ) → ElementEnds (drop from b) n → ⊥) (λ n. ElementEnds (drop from b) n)
    → (e : Element) (rest : List ℕ) → spell_element e rest ≡ drop from b → drop (from + unwrap_or found 0) b ≡ rest
past b from (Some n) h e rest k = sym (drop-drop n from b) ∙ (once_element h.element e (drop n (drop from b)) rest (h.spells ∙ sym k)).1
past b from None h e rest k = absurd (h _ (record { element = e; within = omega arith; spells = element_ends e (drop from b) rest k }))

pub returns-clause-value : goal.returns-clause-value
returns-clause-value c = rw c.unwrap_or.ensures (past c.args.bytes.now c.args.from c.element_end.result (simp take_rest at c.element_end.ensures))
