-- Fields come to one result.
use Rattle.std.proofs.Common.{◌≡◌, ℕ, ◌+◌, List, [], get_or, take, Ok, Err, Option, Result, sym, refl, ap, ◌∙◌, subst, arith}
use Rattle.signature.specs.declared.codes.Alignment.TheVariants.{Eight}
use Rattle.signature.specs.Trees.{Tree}
use Rattle.signature.proofs.Spellings.{once}
use Rattle.items.specs.declared.fault.Flaw.{Flaw}
use Rattle.items.specs.Faults.{Then}
use Rattle.items.proofs.Once.{One, is_one, provided_one, then_one, ok_inj, never, pad_one, typed_one}
use Rattle.values.specs.Values.{Value}
use Rattle.values.proofs.Once.{value_one}
use Rattle.fields.specs.declared.Fields.{Fields}
use Rattle.fields.specs.declared.known.Field.{Field}
use Rattle.fields.specs.Known.{known}
use Rattle.fields.specs.Headers.{start, noted, Kinded, Fitting, Valued, OneField, AllFields, no_more, bad_one, one_more, Header}

module _ (ordered : List ℕ → List ℕ) (bytes : List ℕ) (end : ℕ) where
  kinded_one : (o : Option Field) (p : ℕ) → One (Kinded (take end bytes) o p)
  kinded_one o p = then_one (typed_one (take end bytes) 0 p) (λ q. provided_one (is_one q))

  fitting_one : (s : Fields) (o : Option Field) (p q : ℕ) → One (Fitting ordered (take end bytes) s o p q)
  fitting_one s o p q = provided_one (is_one (noted s o p q))

  content_one : (s : Fields) (o : Option Field) (p : ℕ) (t : Tree) → One (Then (Value ordered bytes 0 end t p) (Fitting ordered (take end bytes) s o (start o p)))
  content_one s o p t = then_one (λ r q h k. value_one ordered bytes h q k) (λ q. fitting_one s o (start o p) q)

  valued_one : (s : Fields) (o : Option Field) (k p : ℕ) → One (Valued ordered bytes end s o k p)
  valued_one s o k p r q (t, ts, h) (u, us, g) =
      content_one s o p t r q h (subst (λ (x : Tree). Then (Value ordered bytes 0 end x p) (Fitting ordered (take end bytes) s o (start o p)) q) (sym (once t u [] [] (ts ∙ sym us)).0) g)

  one_once : (s : Fields) → One (OneField ordered bytes end s)
  one_once s =
      then_one (pad_one (take end bytes) Eight s.at)
      (λ p. then_one (provided_one (provided_one (is_one (get_or (take end bytes) p 0)))) (λ c. then_one (kinded_one (known c) (p + 1)) (λ q. valued_one s (known c) (p + 1) q)))

  all_once : {s : Fields} {r : Result Fields Flaw} → AllFields ordered bytes end s r → (q : Result Fields Flaw) → AllFields ordered bytes end s q → r ≡ q
  all_once (no_more l) q (no_more m) = refl
  all_once (no_more l) q (bad_one m k) = absurd (omega arith)
  all_once (no_more l) q (one_more u m k rest) = absurd (omega arith)
  all_once (bad_one l h) q (no_more m) = absurd (omega arith)
  all_once (bad_one {s} {f} l h) q (bad_one {f = g} m k) = ap Err (let e = one_once s (Err f) (Err g) h k in let same : f ≡ g = cc in same)
  all_once (bad_one {s} {f} l h) q (one_more u m k rest) = never u f (one_once s (Ok u) (Err f) k h)
  all_once (one_more t l h rest) q (no_more m) = absurd (omega arith)
  all_once (one_more {s} t l h rest) q (bad_one {f = g} m k) = never t g (one_once s (Ok t) (Err g) h k)
  all_once (one_more {s} t l h rest) q (one_more u m k others) =
      all_once rest q (subst (λ (x : Fields). AllFields ordered bytes end x q) (sym (ok_inj t u (one_once s (Ok t) (Ok u) h k))) others)

  pub header_once : One (Header ordered bytes end)
  header_once = provided_one (then_one (λ r q h k. all_once h q k) (λ s. then_one (pad_one bytes Eight end) (λ q. is_one s)))
