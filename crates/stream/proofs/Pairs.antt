-- Bytes as pairs of hex digits.
use Rattle.std.proofs.Common.{◌≡◌, ℕ, zero, suc, ◌+◌, ◌*◌, ◌/◌, ◌%◌, ◌<◌, ◌≤◌, List, [], ◌∷◌, ◌++◌, length, get_or, take, drop, sym, refl, ap, ◌∙◌, inl, inr, append_assoc, append-nil, suc-le-suc, arith}
use Rattle.std.proofs.lemmas.List.{take_more, get_or_append_left, get_or_push, length_push}
use Rattle.std.proofs.lemmas.Bool.{cases_lt}
use Rattle.std.proofs.lemmas.Bool.Decides.{nat_tests}
use Rattle.hex_digits.specs.Hex.{digit, pairs}
use Rattle.hex_digits.proofs.Pairs.{length_pairs}
use Rattle.stream.specs.Spelling.{hex, Bytes, Without}

pairs_push : (bs more : List ℕ) (b : ℕ) → pairs (bs ++ (b ∷ [])) ++ more ≡ pairs bs ++ (digit (b / 16) ∷ (digit (b % 16) ∷ more))
pairs_push [] more b = refl
pairs_push (a ∷ bs) more b = ap (λ (t : List ℕ). digit (a / 16) ∷ (digit (a % 16) ∷ t)) (pairs_push bs more b)

-- one byte more, after its digits
pub pairs_take : (xs : List ℕ) (i x y : ℕ) → i < length xs → x ≡ digit (get_or xs i 0 / 16) → y ≡ digit (get_or xs i 0 % 16) → (pairs (take i xs) ++ (x ∷ [])) ++ (y ∷ []) ≡ pairs (take (i + 1) xs)
pairs_take xs i x y l p q =
    append_assoc (pairs (take i xs)) (x ∷ []) (y ∷ [])
    ∙ ap (λ a. pairs (take i xs) ++ (a ∷ (y ∷ []))) p ∙ ap (λ a. pairs (take i xs) ++ (digit (get_or xs i 0 / 16) ∷ (a ∷ []))) q
    ∙ sym (pairs_push (take i xs) [] (get_or xs i 0)) ∙ append-nil (pairs (take i xs ++ (get_or xs i 0 ∷ []))) ∙ ap pairs (sym (take_more xs i 0 l))

two_first : (xs : List ℕ) → 2 ≤ length xs → xs ≡ get_or xs 0 0 ∷ (get_or xs 1 0 ∷ drop 2 xs)
two_first [] h = absurd (omega arith)
two_first (x ∷ []) h = absurd (omega arith)
two_first (x ∷ (y ∷ xs)) h = refl

-- one pair more
pub pairs_step : (text bs left : List ℕ) (x y : ℕ) → text ≡ pairs bs ++ left → 2 ≤ length left → get_or left 0 0 ≡ digit x → get_or left 1 0 ≡ digit y → y < 16 → text ≡ pairs (bs ++ ((x * 16 + y) ∷ [])) ++ drop 2 left
pairs_step text bs left x y e two p q h =
    let high : (x * 16 + y) / 16 ≡ x = omega arith in
    let low : (x * 16 + y) % 16 ≡ y = omega arith in
    e ∙ ap (λ (t : List ℕ). pairs bs ++ t) (two_first left two)
    ∙ ap (λ a. pairs bs ++ (a ∷ (get_or left 1 0 ∷ drop 2 left))) (p ∙ ap digit (sym high))
    ∙ ap (λ a. pairs bs ++ (digit ((x * 16 + y) / 16) ∷ (a ∷ drop 2 left))) (q ∙ ap digit (sym low))
    ∙ sym (pairs_push bs (drop 2 left) (x * 16 + y))

pub bytes_push : (bs : List ℕ) (b : ℕ) → Bytes bs → b < 256 → Bytes (bs ++ (b ∷ []))
bytes_push bs b all h i l =
    elim (cases_lt i (length bs)) [
      | inl s ↦ rw get_or_append_left (all i s)
      | inr s ↦ let e : length bs ≡ i = omega (arith, length_push bs b) in rw (get_or_push bs b 0 i e) h
    ]

bytes_tail : (b : ℕ) (bs : List ℕ) → Bytes (b ∷ bs) → Bytes bs
bytes_tail b bs all i l = all (suc i) (suc-le-suc l)

-- what is left after some pairs is pairs too
pairs_left : (done left bs : List ℕ) → Bytes bs → pairs done ++ left ≡ pairs bs → (more : List ℕ) × (Bytes more × (left ≡ pairs more))
pairs_left [] left bs all e = (bs, (all, e))
pairs_left (d ∷ ds) left [] all e = let z : ◌≡◌ {A = ℕ} 0 1 = cc in absurd (omega arith)
pairs_left (d ∷ ds) left (b ∷ bs) all e = pairs_left ds left bs (bytes_tail b bs all) (cc)

abbrev pub NoPairs : List ℕ → Type 0
NoPairs left = (bs : List ℕ) → Bytes bs → left ≡ pairs bs → ⊥

pub no_hex : (text done left : List ℕ) → text ≡ pairs done ++ left → (text ≡ 45 ∷ [] → ⊥) → NoPairs left → (bs : List ℕ) → Bytes bs → text ≡ hex bs → ⊥
no_hex text done left e dash none [] all h = dash h
no_hex text done left e dash none (b ∷ bs) all h =
    let p = pairs_left done left (b ∷ bs) all (sym e ∙ h) in none p.0 p.1.0 p.1.1

pub no_high : (left : List ℕ) → 2 ≤ length left → ((d : ℕ) → d < 16 → get_or left 0 0 ≡ digit d → ⊥) → NoPairs left
no_high left two none [] all e = omega (arith, ap length e)
no_high left two none (b ∷ bs) all e = none (b / 16) (omega (arith, all 0 (omega arith))) (ap (λ (t : List ℕ). get_or t 0 0) e)

pub no_low : (left : List ℕ) → 2 ≤ length left → ((d : ℕ) → d < 16 → get_or left 1 0 ≡ digit d → ⊥) → NoPairs left
no_low left two none [] all e = omega (arith, ap length e)
no_low left two none (b ∷ bs) all e = none (b % 16) (omega arith) (ap (λ (t : List ℕ). get_or t 1 0) e)

pub no_odd : (left : List ℕ) → length left ≡ 1 → NoPairs left
no_odd left one [] all e = omega (arith, ap length e)
no_odd left one (b ∷ bs) all e = omega (arith, ap length e)

pub hex_some : (bs : List ℕ) → 0 < length bs → hex bs ≡ pairs bs
hex_some [] h = absurd (omega arith)
hex_some (b ∷ bs) h = refl

-- words of equal bytes are of equally many
pub same_length : (xs bs : List ℕ) → hex xs ≡ hex bs → length xs ≡ length bs
same_length [] [] e = refl
same_length [] (b ∷ bs) e = omega (arith, ap length e, length_pairs (b ∷ bs))
same_length (a ∷ xs) [] e = omega (arith, ap length e, length_pairs (a ∷ xs))
same_length (a ∷ xs) (b ∷ bs) e = omega (arith, ap length e, length_pairs (a ∷ xs), length_pairs (b ∷ bs))

clear_digit : (d : ℕ) → d < 16 → digit d ≡ 32 → ⊥
clear_digit d h e = grind (arith, nat_tests)

without_pairs : (bs : List ℕ) → Bytes bs → Without 32 (pairs bs)
without_pairs [] all i l e = omega arith
without_pairs (b ∷ bs) all zero l e = clear_digit (b / 16) (omega (arith, all 0 (omega arith))) e
without_pairs (b ∷ bs) all (suc zero) l e = clear_digit (b % 16) (omega arith) e
without_pairs (b ∷ bs) all (suc (suc i)) l e = without_pairs bs (bytes_tail b bs all) i (omega arith) e

-- no space stands in a word of bytes
pub without_hex : (bs : List ℕ) → Bytes bs → Without 32 (hex bs)
without_hex [] all zero l e = omega arith
without_hex [] all (suc i) l e = omega arith
without_hex (b ∷ bs) all i l e = without_pairs (b ∷ bs) all i l e
