-- A walk from the beginning of values to their end.
use Rattle.std.proofs.Common.{◌≡◌, ℕ, ◌≤◌, List, [], length, Ok, Result, subst, sym, ap, ◌∙◌, arith}
use Rattle.signature.specs.Trees.{Trees, spell_all}
use Rattle.items.specs.declared.fault.Flaw.{Flaw}
use Rattle.items.specs.declared.Span.{Span}
use Rattle.values.specs.declared.walk.Stands.TheVariants.{PastValue}
use Rattle.values.specs.declared.walk.Walk.{Walk}
use Rattle.values.specs.Values.{Values, within, Spelled, OfTypes}
use Rattle.values.specs.Walks.{top, Owed, past_value, Of, Comes, Somewhere, Done, Moved}
use Rattle.values.proofs.Ties.{in_message}
use Rattle.values.proofs.Passes.{done_comes}

module _ (ordered : List ℕ → List ℕ) (bytes : List ℕ) (codes : Span) (at end : ℕ) where
  -- what the walk owes comes to what the values from `at` on come to
  pub record Owes (ts : Trees) (w : Walk) : Type 0 where
    pub owed : Owed
    pub of : Of end owed w
    pub comes : (r : Result ℕ Flaw) → Comes ordered bytes end owed w.at r → Values ordered bytes 0 end ts at r

  -- a walk through values of the types of the codes
  pub record Through (w : Walk) : Type 0 where
    pub message : w.bytes.now ≡ bytes
    pub here : Somewhere w
    pub owes : (ts : Trees) → spell_all ts [] ≡ within bytes codes → Owes ts w

  -- at the beginning
  module _ (w : Walk) (message : w.bytes.now ≡ bytes) (last : w.codes_end ≡ codes.to) (code : w.code ≡ codes.from) (place : w.at ≡ at) (limited : w.end ≡ end)
      (past : w.stands ≡ PastValue) (none : w.frames.items ≡ []) (spelled : Spelled bytes codes) (before : at ≤ end) (inside : end ≤ length bytes) where
    owes_all : (ts : Trees) → spell_all ts [] ≡ within bytes codes → Of end (past_value (top ts)) w
    owes_all ts e =
        let all = in_message bytes codes spelled.order ts e in
        record {
          within = (omega (arith, ap length message, last, spelled.inside), omega (arith, ap length message));
          limited = limited;
          place = omega arith;
          tied = (past, omega (arith, ap length message, code, spelled.order, spelled.inside), (none, rw (message, last, code) all));
        }

    pub begun : Through w
    begun =
        let s = spelled.signature in
        record {
          message = message;
          here = record { end = end; owed = past_value (top s.types); of = owes_all s.types s.spells };
          owes = λ ts e. record { owed = past_value (top ts); of = owes_all ts e; comes = λ r c. subst (λ (p : ℕ). Values ordered bytes 0 end ts p r) place c };
        }

  pub stepped : (w v : Walk) → Through w → Moved ordered w v → Through v
  stepped w v t m = record {
    message = (m.goes t.here.end t.here.owed t.here.of).same.0 ∙ t.message;
    here = let g = m.goes t.here.end t.here.owed t.here.of in record { end = t.here.end; owed = g.next; of = g.of };
    owes = λ ts e.
        let o = t.owes ts e in
        let g = m.goes end o.owed o.of in
        record {
          owed = g.next;
          of = g.of;
          comes = λ r c. o.comes r (subst (λ (xs : List ℕ). Comes ordered xs end o.owed w.at r) t.message (g.comes r (subst (λ (xs : List ℕ). Comes ordered xs end g.next v.at r) (sym t.message) c)));
        };
  }

  pub finished : (w : Walk) → Through w → Done w → OfTypes ordered bytes codes at end (Ok w.at)
  finished w t d ts e =
      let o = t.owes ts e in
      o.comes (Ok w.at) (subst (λ (xs : List ℕ). Comes ordered xs end o.owed w.at (Ok w.at)) t.message (done_comes ordered w d end o.owed o.of))
