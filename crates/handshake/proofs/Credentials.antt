-- The uid's text, digit by digit from its end.
use Rattle.std.proofs.Common.{◌≡◌, ℕ, ◌+◌, ◌-◌, ◌/◌, ◌%◌, ◌^◌, ◌<◌, ◌≤◌, false, eqb, List, [], ◌∷◌, ◌++◌, length, take, get_or, decimal, sym, refl, ap, ◌∙◌, ap₂, ⊎_elim, arith, rules, length-append}
use Rattle.std.specs.Str.{bytes_eq}
use Rattle.std.proofs.lemmas.Fmt.{decimal_digit, decimal_step}
use Rattle.std.proofs.lemmas.Slice.Eq.{bytes_eq-Decides}
use Rattle.std.proofs.lemmas.List.{append_assoc, append_cancel_right, same_from_push, take-append-drop, drop_more, drop_all}
use Rattle.std.proofs.lemmas.Bool.{cases_lt}
use Rattle.std.proofs.lemmas.Bool.Decides.{same_from_decides, Decides-like}
use Rattle.hex_digits.specs.Hex.{pairs}
use Rattle.hex_digits.proofs.Pairs.{digit_below, pairs_append}
use Rattle.handshake.specs.Texts.{credential}

pub differs : (xs ys : List ℕ) → (xs ≡ ys → ⊥) → bytes_eq xs ys ≡ false
differs xs ys n = search (rules, bytes_eq-Decides)

-- a decimal digit in hex
abbrev pair : ℕ → List ℕ
pair d = 51 ∷ (48 + d) ∷ []

pairs_digit : (d : ℕ) → d < 10 → pairs ((48 + d) ∷ []) ≡ pair d
pairs_digit d h =
    let high : (48 + d) / 16 ≡ 3 = omega arith in
    let low : (48 + d) % 16 ≡ d = omega arith in
    rw (high, low) (ap (λ (n : ℕ). 51 ∷ n ∷ []) (digit_below d h))

credential_digit : (uid : ℕ) → uid < 10 → credential uid ≡ pair (uid % 10)
credential_digit uid h =
    let last : uid % 10 ≡ uid = omega arith in
    ap pairs (decimal_digit uid h) ∙ pairs_digit uid h ∙ ap pair (sym last)

credential_step : (uid : ℕ) → 10 ≤ uid → uid < 2 ^ 32 → credential uid ≡ credential (uid / 10) ++ pair (uid % 10)
credential_step uid h fits =
    let small : uid % 10 < 10 = omega arith in
    ap pairs (decimal_step uid h (omega arith))
    ∙ pairs_append (decimal (uid / 10)) ((48 + uid % 10) ∷ [])
    ∙ ap (λ (xs : List ℕ). credential (uid / 10) ++ xs) (pairs_digit (uid % 10) small)

-- the last digit of every uid's text
credential_ends : (uid : ℕ) → uid < 2 ^ 32 → (front : List ℕ) × (credential uid ≡ front ++ pair (uid % 10))
credential_ends uid fits = ⊎_elim
    (λ h. ([], credential_digit uid h))
    (λ h. (credential (uid / 10), credential_step uid h fits))
    (cases_lt uid 10)

-- a text by its last two bytes
last_two : (xs : List ℕ) (n : ℕ) → length xs ≡ n + 2 → xs ≡ take n xs ++ (get_or xs n 0 ∷ get_or xs (n + 1) 0 ∷ [])
last_two xs n e =
    let one = drop_more xs n 0 (omega arith) in
    let two = drop_more xs (n + 1) 0 (omega arith) in
    let none = drop_all (n + 1 + 1) xs (omega arith) in
    let whole = take-append-drop n xs in
    cc

same_ends : (xs ys : List ℕ) (a b c d : ℕ) → xs ++ (a ∷ b ∷ []) ≡ ys ++ (c ∷ d ∷ []) → (a ≡ c) × (b ≡ d)
same_ends xs ys a b c d e =
    let outer = same_from_push (xs ++ (a ∷ [])) (ys ++ (c ∷ [])) b d (append_assoc xs (a ∷ []) (b ∷ []) ∙ e ∙ sym (append_assoc ys (c ∷ []) (d ∷ []))) in
    let inner = same_from_push xs ys a c outer.0 in
    (inner.1, outer.1)

same_fronts : (xs ys zs : List ℕ) → bytes_eq (xs ++ zs) (ys ++ zs) ≡ bytes_eq xs ys
same_fronts xs ys zs =
    same_from_decides _ _ (bytes_eq-Decides (xs ++ zs) (ys ++ zs))
    (Decides-like _ (λ e. ap (λ (ws : List ℕ). ws ++ zs) e) (append_cancel_right xs ys zs) (bytes_eq-Decides xs ys))

none_left : (xs : List ℕ) → bytes_eq xs [] ≡ eqb (length xs) 0
none_left [] = refl
none_left (x ∷ xs) = search rules

module _ (text : List ℕ) (uid : ℕ) (fits : uid < 2 ^ 32) where
  pub too_short : length text < 2 → bytes_eq text (credential uid) ≡ false
  too_short h =
      differs text (credential uid)
      (λ e. let p = credential_ends uid fits in let n = length-append p.0 (pair (uid % 10)) in let m = ap length (e ∙ p.1) in omega arith)

  module _ (long : 2 ≤ length text) where
    abbrev front : List ℕ
    front = take (length text - 2) text

    abbrev high : ℕ
    high = get_or text (length text - 2) 0

    abbrev low : ℕ
    low = get_or text (length text - 1) 0

    whole : text ≡ front ++ (high ∷ low ∷ [])
    whole =
        let next : length text - 2 + 1 ≡ length text - 1 = omega arith in
        last_two text (length text - 2) (omega arith) ∙ ap (λ (i : ℕ). front ++ (high ∷ get_or text i 0 ∷ [])) next

    ends : text ≡ credential uid → (high ≡ 51) × (low ≡ 48 + uid % 10)
    ends e =
        let p = credential_ends uid fits in
        same_ends front p.0 high low 51 (48 + uid % 10) (sym whole ∙ e ∙ p.1)

    pub wrong_high : (high ≡ 51 → ⊥) → bytes_eq text (credential uid) ≡ false
    wrong_high n = differs text (credential uid) (λ e. n (ends e).0)

    pub wrong_low : (low ≡ 48 + uid % 10 → ⊥) → bytes_eq text (credential uid) ≡ false
    wrong_low n = differs text (credential uid) (λ e. n (ends e).1)

    module _ (h : high ≡ 51) (l : low ≡ 48 + uid % 10) where
      split : text ≡ front ++ pair (uid % 10)
      split = whole ∙ ap₂ (λ (a b : ℕ). front ++ (a ∷ b ∷ [])) h l

      pub one_digit : uid < 10 → bytes_eq text (credential uid) ≡ eqb (length front) 0
      one_digit small =
          ap₂ bytes_eq split (credential_digit uid small) ∙ same_fronts front [] (pair (uid % 10)) ∙ none_left front

      pub more_digits : 10 ≤ uid → bytes_eq text (credential uid) ≡ bytes_eq front (credential (uid / 10))
      more_digits large =
          ap₂ bytes_eq split (credential_step uid large fits) ∙ same_fronts front (credential (uid / 10)) (pair (uid % 10))

-- what `shows` is told by the last two characters
pub ruleset by_last_digit = (too_short, wrong_high, wrong_low, one_digit, more_digits)
