-- What `parse` reads of a text without a plus or leading zeros.
use Rattle.std.proofs.Common.{◌≡◌, ℕ, ◌^◌, ◌<◌, ◌≤◌, List, length, get_or, Some, None, Ok, Err, IsUtf8, decimal, Option, Result, sym, ap, ◌∙◌, subst, inl, inr, arith, MatchOption, MatchResult}
use Rattle.std.specs.Str.Parse.{AllDigits, digits_value, ParsesUnsigned}
use Rattle.std.specs.Result.{result_ok}
use Rattle.std.specs.Int.{IsInRange}
use Rattle.std.proofs.lemmas.Str.Parse.{IsNumeralModel, numerals_by_value, tells_digits, parse_plain, not_in_digits}
use Rattle.std.proofs.lemmas.Fmt.{decimal-digits_value, digits_decimal, digits_value-decimal, decimal_nonempty, first_decimal, decimal_digit, IsAscii-decimal}
use Rattle.std.proofs.lemmas.Bool.{cases_lt}
use Rattle.std.proofs.lemmas.Str.{IsUtf8-from_ascii}
use Rattle.stream.specs.Spelling.{Without}

pub own : IsNumeralModel (AllDigits 10) (digits_value 10)
own = numerals_by_value (AllDigits 10) tells_digits

abbrev pub Number : List ℕ → Option ℕ → Type 0
Number bs o = MatchOption o ((n : ℕ) → n < 2 ^ 64 → bs ≡ decimal n → ⊥) (λ n. (n < 2 ^ 64) × (bs ≡ decimal n))

pub parsed : (E : Type 0) (bs : List ℕ) (r : Result ℕ E) → ParsesUnsigned 64 10 bs r → (get_or bs 0 0 ≡ 43 → ⊥) → (get_or bs 0 0 ≡ 48 → length bs ≡ 1) → Number bs (result_ok r)
parsed E bs (Ok x) h p z =
    let q = parse_plain own {E = E} 64 bs (Ok x) h p in
    (omega (arith, q.0.2, q.1), sym (ap decimal q.1 ∙ decimal-digits_value own bs q.0.0 q.0.1 z q.0.2))
parsed E bs (Err d) h p z = λ n small e.
    parse_plain own {E = E} 64 bs (Err d) h p (
      subst (AllDigits 10) (sym e) (digits_decimal own n small),
      subst (λ (t : List ℕ). 0 < length t) (sym e) (decimal_nonempty n small),
      subst (λ (t : List ℕ). digits_value 10 t < 2 ^ 64) (sym e) (subst (λ (m : ℕ). m < 2 ^ 64) (sym (digits_value-decimal own n small)) small),
    )

-- a decimal number has digits only
without_decimal : (b n : ℕ) → n < 2 ^ 64 → (IsInRange 48 57 b → ⊥) → Without b (decimal n)
without_decimal b n small out = not_in_digits own (decimal n) b (digits_decimal own n small) out

pub without_space : (n : ℕ) → n < 2 ^ 64 → Without 32 (decimal n)
without_space n small = without_decimal 32 n small (λ i. omega arith)

-- a text that begins with a plus, or with a zero before more, is no number
pub no_plus : (bs : List ℕ) → 0 < length bs → get_or bs 0 0 ≡ 43 → (n : ℕ) → n < 2 ^ 64 → bs ≡ decimal n → ⊥
no_plus bs some plus n small e =
    without_decimal 43 n small (λ i. omega arith) 0 (omega (arith, ap length e)) (ap (λ (t : List ℕ). get_or t 0 0) (sym e) ∙ plus)

pub no_lead : (bs : List ℕ) → 1 < length bs → get_or bs 0 0 ≡ 48 → (n : ℕ) → n < 2 ^ 64 → bs ≡ decimal n → ⊥
no_lead bs long zero n small e =
    elim (cases_lt 0 n) [
      | inl h ↦ omega (arith, first_decimal n h small, ap (λ (t : List ℕ). get_or t 0 0) e)
      | inr h ↦ omega (arith, ap length (e ∙ decimal_digit n (omega arith)))
    ]

pub no_none : (bs : List ℕ) → length bs ≤ 0 → (n : ℕ) → n < 2 ^ 64 → bs ≡ decimal n → ⊥
no_none bs none n small e = omega (arith, decimal_nonempty n small, ap length e)

pub no_utf8 : (bs : List ℕ) → (IsUtf8 bs → ⊥) → (n : ℕ) → n < 2 ^ 64 → bs ≡ decimal n → ⊥
no_utf8 bs none n small e = none (subst IsUtf8 (sym e) (IsUtf8-from_ascii (decimal n) (IsAscii-decimal n small)))

-- what a result says, by what `ok` makes of it
pub of_none : {T E : Type 0} (P : T → Type 0) (Q : E → Type 0) (r : Result T E) → MatchResult r P Q → None ≡ result_ok r → (e : E) × Q e
of_none P Q (Ok x) h e = let z : ◌≡◌ {A = ℕ} 0 1 = cc in absurd (omega arith)
of_none P Q (Err e) h z = (e, h)

pub of_some : {T E : Type 0} (P : T → Type 0) (Q : E → Type 0) (r : Result T E) (x : T) → MatchResult r P Q → Some x ≡ result_ok r → P x
of_some P Q (Ok y) x h e = let z : y ≡ x = cc in subst P z h
of_some P Q (Err e) x h f = let z : ◌≡◌ {A = ℕ} 0 1 = cc in absurd (omega arith)
