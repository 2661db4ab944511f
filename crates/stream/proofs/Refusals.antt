-- What stands after '!'.
use Rattle.std.proofs.Common.{◌≡◌, ℕ, zero, suc, ◌^◌, ◌<◌, ◌≤◌, List, [], ◌∷◌, Ok, Err, decimal, Result, sym, refl, ap, ◌∙◌, subst, inl, inr, arith}
use Rattle.stream.specs.Refusals.{number_of}
use Rattle.stream.specs.Replies.{Denial, Place, Placed, Denied}
use Rattle.stream.specs.declared.answer.Answer.{Answer}
use Rattle.stream.specs.declared.fault.Fault.{Fault}
use Rattle.stream.specs.declared.refusal.Refusal.{Refusal}
use Rattle.stream.specs.declared.refusal.Refusal.TheVariants.{NoLife, Taken, ShortBuffer, AlreadyBegun, EarlyBegin, NotBegun, NoName, NoDestination, NoPendingCall, NoPlace, SerialPending, BadTime, ShortTake}
use Rattle.stream.proofs.Exits.{same_number, rest_same}

-- a refusal's number is 1 to 14, and not that of a malformed message
pub number_range : (r : Refusal) → (0 < number_of r) × (number_of r ≤ 14) × (number_of r ≡ 7 → ⊥)
number_range NoLife = (omega arith, omega arith, λ e. omega arith)
number_range Taken = (omega arith, omega arith, λ e. omega arith)
number_range ShortBuffer = (omega arith, omega arith, λ e. omega arith)
number_range AlreadyBegun = (omega arith, omega arith, λ e. omega arith)
number_range EarlyBegin = (omega arith, omega arith, λ e. omega arith)
number_range NotBegun = (omega arith, omega arith, λ e. omega arith)
number_range NoName = (omega arith, omega arith, λ e. omega arith)
number_range NoDestination = (omega arith, omega arith, λ e. omega arith)
number_range NoPendingCall = (omega arith, omega arith, λ e. omega arith)
number_range NoPlace = (omega arith, omega arith, λ e. omega arith)
number_range SerialPending = (omega arith, omega arith, λ e. omega arith)
number_range BadTime = (omega arith, omega arith, λ e. omega arith)
number_range ShortTake = (omega arith, omega arith, λ e. omega arith)

-- and each such number is one of a refusal
pub listed : (n : ℕ) → 0 < n → n ≤ 14 → (n ≡ 7 → ⊥) → (r : Refusal) × (number_of r ≡ n)
listed zero some few other = absurd (omega arith)
listed (suc zero) some few other = (NoLife, refl)
listed (suc (suc zero)) some few other = (Taken, refl)
listed (suc (suc (suc zero))) some few other = (ShortBuffer, refl)
listed (suc (suc (suc (suc zero)))) some few other = (AlreadyBegun, refl)
listed (suc (suc (suc (suc (suc zero))))) some few other = (EarlyBegin, refl)
listed (suc (suc (suc (suc (suc (suc zero)))))) some few other = (NotBegun, refl)
listed (suc (suc (suc (suc (suc (suc (suc zero))))))) some few other = absurd (other refl)
listed (suc (suc (suc (suc (suc (suc (suc (suc zero)))))))) some few other = (NoName, refl)
listed (suc (suc (suc (suc (suc (suc (suc (suc (suc zero))))))))) some few other = (NoDestination, refl)
listed (suc (suc (suc (suc (suc (suc (suc (suc (suc (suc zero)))))))))) some few other = (NoPendingCall, refl)
listed (suc (suc (suc (suc (suc (suc (suc (suc (suc (suc (suc zero))))))))))) some few other = (NoPlace, refl)
listed (suc (suc (suc (suc (suc (suc (suc (suc (suc (suc (suc (suc zero)))))))))))) some few other = (SerialPending, refl)
listed (suc (suc (suc (suc (suc (suc (suc (suc (suc (suc (suc (suc (suc zero))))))))))))) some few other = (BadTime, refl)
listed (suc (suc (suc (suc (suc (suc (suc (suc (suc (suc (suc (suc (suc (suc zero)))))))))))))) some few other = (ShortTake, refl)
listed (suc (suc (suc (suc (suc (suc (suc (suc (suc (suc (suc (suc (suc (suc (suc n))))))))))))))) some few other = absurd (omega arith)

pub no_refusal : (ws : List (List ℕ)) → ((n : ℕ) (left : List (List ℕ)) → n < 2 ^ 8 → n < 2 ^ 64 → ws ≡ decimal n ∷ left → ⊥) → Denial ws → ⊥
no_refusal ws none (inl s) = none s.0 [] (omega (arith, s.2)) (omega (arith, s.2)) s.4
no_refusal ws none (inr s) = none 7 s.0 (omega arith) (omega arith) s.1

module _ (ws left : List (List ℕ)) (m : ℕ) (small : m < 2 ^ 8) (e : ws ≡ decimal m ∷ left) where
  same : (n : ℕ) {rest : List (List ℕ)} → n < 2 ^ 8 → ws ≡ decimal n ∷ rest → m ≡ n
  same n low f = same_number m n (omega arith) (omega arith) e f

  pub by_place : (r : Result Answer Fault) → m ≡ 7 → Placed left r → Denied ws r
  by_place (Ok a) z h = (h.0, e ∙ ap (λ n. decimal n ∷ left) z ∙ h.1, h.2, h.3)
  by_place (Err x) z h = (
    h.0,
    λ d. elim d [
      | inl s ↦ s.3 (sym (same s.0 (omega (arith, s.2)) s.4) ∙ z)
      | inr s ↦ h.1 (subst Place (rest_same s.1 e) s.2)
    ],
  )

  pub no_number : (m ≡ 7 → ⊥) → ((r : Refusal) → number_of r ≡ m → ⊥) → Denial ws → ⊥
  no_number other none (inl s) = let l = listed s.0 s.1 s.2 s.3 in none l.0 (l.1 ∙ sym (same s.0 (omega (arith, s.2)) s.4))
  no_number other none (inr s) = other (same 7 (omega arith) s.1)

  pub more_words : (m ≡ 7 → ⊥) → (left ≡ [] → ⊥) → Denial ws → ⊥
  more_words other more (inl s) = more (rest_same e s.4)
  more_words other more (inr s) = other (same 7 (omega arith) s.1)
