-- The exits of a `?`, and words that are the same.
use Rattle.std.proofs.Common.{◌≡◌, ℕ, ◌^◌, ◌<◌, List, [], ◌∷◌, IsErrAnd, Ok, Err, decimal, Result, sym, subst, arith}
use Rattle.std.proofs.lemmas.Fmt.{decimal_injective}
use Rattle.stream.specs.Calls.{Arguments}
use Rattle.stream.specs.Verbs.{Shape}
use Rattle.stream.specs.declared.call.Call.{Call}
use Rattle.stream.specs.declared.fault.Fault.{Fault}
use Rattle.stream.specs.declared.fault.Fault.TheVariants.{BadHex, BadNumber, OutOfMemory}
use Rattle.stream.specs.declared.verb.Verb.{Verb}

pub stopped : {T : Type 0} (P : Result T Fault → Type 0) (r : Result T Fault) (e : Fault) → IsErrAnd r (λ y. y ≡ e) → P (Err e) → P r
stopped P (Ok x) e by h = absurd by
stopped P (Err y) e by h = subst (λ (z : Fault). P (Err z)) (sym by) h

-- a `?` on a number: the words that an accepted row has would begin with one
pub no_argument : (v : Verb) (ws : List (List ℕ)) (r : Result Call Fault) {next : List (List ℕ)} {bound : ℕ} {e : Fault} → IsErrAnd r (λ y. y ≡ e) → (e ≡ OutOfMemory → ⊥) × ((n : ℕ) (rest : List (List ℕ)) → n < bound → n < 2 ^ 64 → next ≡ decimal n ∷ rest → ⊥) → (Shape v ws → (n : ℕ) × (rest : List (List ℕ)) × (n < bound) × (n < 2 ^ 64) × (next ≡ decimal n ∷ rest)) → Arguments v ws r
no_argument v ws r by none shaped =
    stopped (Arguments v ws) r _ by (
      λ o. absurd (none.0 o),
      λ _ s. let n = shaped s in none.1 n.0 n.1 n.2 n.3 n.4,
    )

pub first_same : {ws left rest : List (List ℕ)} {a b : List ℕ} → ws ≡ a ∷ left → ws ≡ b ∷ rest → a ≡ b
first_same p q = cc

pub rest_same : {ws left rest : List (List ℕ)} {a b : List ℕ} → ws ≡ a ∷ left → ws ≡ b ∷ rest → left ≡ rest
rest_same p q = cc

pub second_same : {ws left end : List (List ℕ)} {a b x y : List ℕ} → ws ≡ a ∷ left → left ≡ b ∷ end → ws ≡ x ∷ (y ∷ []) → b ≡ y
second_same p q r = cc

-- a word is one number's
pub same_number : {ws left rest : List (List ℕ)} (m n : ℕ) → m < 2 ^ 64 → n < 2 ^ 64 → ws ≡ decimal m ∷ left → ws ≡ decimal n ∷ rest → m ≡ n
same_number m n small low p q = decimal_injective m n small low (first_same p q)

-- no other fault is want of memory
pub bad_hex : BadHex ≡ OutOfMemory → ⊥
bad_hex e = let z : ◌≡◌ {A = ℕ} 0 1 = cc in omega arith

pub bad_number : BadNumber ≡ OutOfMemory → ⊥
bad_number e = let z : ◌≡◌ {A = ℕ} 0 1 = cc in omega arith
