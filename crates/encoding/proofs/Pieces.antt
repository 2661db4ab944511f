-- The pieces that basic values are made of: padding, numbers, and bytes with a zero behind them.
use Rattle.std.proofs.lemmas.Grind.{common_steps}
use Rattle.std.proofs.Common.{◌≡◌, ℕ, ◌+◌, ◌-◌, ◌^◌, ◌<◌, ◌≤◌, List, [], ◌∷◌, ◌++◌, length, get_or, take, drop, replicate, sym, ap, ◌∙◌, subst, pow-suc, arith}
use Rattle.std.specs.List.{AllByRecursion}
use Rattle.std.proofs.lemmas.List.{length-append, length-replicate}
use Rattle.std.proofs.lemmas.Bool.Decides.{nat_tests}
use Rattle.order.specs.Numbers.{Byte, number, bytes_of}
use Rattle.order.proofs.Trips.{read_written, written_read, length_bytes_of}
use Rattle.signature.specs.declared.codes.Alignment.{Alignment}
use Rattle.signature.specs.Codes.{step}
use Rattle.items.specs.Items.{codes_at, codes_end, codes_last, number_at, text_at, text_end, text_last}
use Rattle.encoding.specs.Encodings.{Lies, IsByteOrder, place, padded, codes, digits, text}
use Rattle.encoding.proofs.Spans.{there, long, alone, reads, join, first, second}

pub place_above : (a : Alignment) (p : ℕ) → p ≤ place a p
place_above a p = let n = step a in grind (arith, nat_tests)

number_under : (xs : List ℕ) → AllByRecursion Byte xs → number xs < 256 ^ length xs
number_under [] h = omega arith
number_under (x ∷ xs) h =
    let s = pow-suc 256 (length xs) in
    let b = h.0 in
    let r = number_under xs h.1 in
    omega arith

module _ (area : List ℕ) where
  part_long : (p n : ℕ) → p + n ≤ length area → length (take n (drop p area)) ≡ n
  part_long p n h = grind (arith, common_steps)

  -- padding
  pub unpad : (a : Alignment) (f : ℕ → List ℕ) {p q : ℕ} → Lies area p q (padded a f p) → Lies area p (place a p) (replicate (place a p - p) 0) × Lies area (place a p) q (f (place a p))
  unpad a f {p} {q} h =
      let xs : List ℕ = replicate (place a p - p) 0 in
      let l : length xs ≡ place a p - p = length-replicate (place a p - p) 0 in
      let above = place_above a p in
      let e : p + length xs ≡ place a p = omega arith in
      let ys = f (place a p) in
      (subst (λ (r : ℕ). Lies area p r xs) e (first area xs ys h), subst (λ (r : ℕ). Lies area r q ys) e (second area xs ys h))

  -- one byte
  one : (p : ℕ) → p + 1 ≤ length area → Lies area p (p + 1) (get_or area p 0 ∷ [])
  one p h = grind (arith, common_steps)

  head : {p q x : ℕ} {xs : List ℕ} → Lies area p q (x ∷ xs) → get_or area p 0 ≡ x
  head {p} h =
      let e : p ≡ p + 0 = omega arith in
      ap (λ (n : ℕ). get_or area n 0) e ∙ reads area h 0 (omega arith)

  -- bytes with a zero behind them
  pub closed : (p n : ℕ) → p + n + 1 ≤ length area → get_or area (p + n) 0 ≡ 0 → Lies area p (p + n + 1) (take n (drop p area) ++ 0 ∷ [])
  closed p n h z = grind (arith, common_steps)

  pub closing : {p q : ℕ} (xs : List ℕ) → Lies area p q (xs ++ 0 ∷ []) → (q ≡ p + length xs + 1) × (get_or area (p + length xs) 0 ≡ 0) × (take (length xs) (drop p area) ≡ xs)
  closing {p} {q} xs h =
      let l = long area h in
      let s = length-append xs (0 ∷ []) in
      (omega arith, head (second area xs (0 ∷ []) h), alone area (first area xs (0 ∷ []) h))

  -- a signature with its length before it
  pub codes_there : (p : ℕ) → codes_end area p ≤ length area → codes_last area p ≡ 0 → Lies area p (codes_end area p) (codes (codes_at area p))
  codes_there p h z =
      let n = get_or area p 0 in
      let l = part_long (p + 1) n (omega arith) in
      subst (λ (k : ℕ). Lies area p (codes_end area p) (k ∷ (codes_at area p ++ 0 ∷ []))) (sym l) (join area (one p (omega arith)) (closed (p + 1) n h z))

  pub codes_read : {p q : ℕ} (xs : List ℕ) → Lies area p q (codes xs) → (q ≡ codes_end area p) × (codes_last area p ≡ 0) × (codes_at area p ≡ xs)
  codes_read {p} {q} xs h =
      subst
      (λ (n : ℕ). (q ≡ p + 1 + n + 1) × (get_or area (p + 1 + n) 0 ≡ 0) × (take n (drop (p + 1) area) ≡ xs))
      (sym (head h))
      (closing xs (second area (length xs ∷ []) (xs ++ 0 ∷ []) h))

  module _ (ordered : List ℕ → List ℕ) (laws : IsByteOrder ordered) where
    -- a number
    pub number_read : (n x : ℕ) {p q : ℕ} → x < 256 ^ n → Lies area p q (digits ordered n x) → number (ordered (take n (drop p area))) ≡ x
    number_read n x {p} {q} h k = grind (arith, common_steps, alone, written_read, length_bytes_of)

    module _ (all : AllByRecursion Byte area) where
      part_bytes : (p n : ℕ) → AllByRecursion Byte (ordered (take n (drop p area)))
      part_bytes p n = grind (arith, common_steps)

      part_size : (p n : ℕ) → p + n ≤ length area → length (ordered (take n (drop p area))) ≡ n
      part_size p n h = grind (arith, common_steps)

      pub number_fits : (p n : ℕ) → p + n ≤ length area → number (ordered (take n (drop p area))) < 256 ^ n
      number_fits p n h = grind (arith, common_steps, part_size, number_under, part_bytes)

      pub number_there : (p n : ℕ) → p + n ≤ length area → Lies area p (p + n) (digits ordered n (number (ordered (take n (drop p area)))))
      number_there p n h =
          let xs = take n (drop p area) in
          let e : xs ≡ digits ordered n (number (ordered xs)) =
          sym (laws.twice xs) ∙ ap ordered (sym (read_written (ordered xs) (part_bytes p n)) ∙ ap (λ (m : ℕ). bytes_of m (number (ordered xs))) (part_size p n h)) in
          subst (λ (ys : List ℕ). Lies area p (p + n) ys) e (there area p n h)

      -- a text with its length before it
      pub text_there : (p : ℕ) → text_end area ordered p ≤ length area → text_last area ordered p ≡ 0 → Lies area p (text_end area ordered p) (text ordered (text_at area ordered p))
      text_there p h z =
          let n = number_at area ordered p in
          let l = part_long (p + 4) n (omega arith) in
          subst (λ (k : ℕ). Lies area p (text_end area ordered p) (digits ordered 4 k ++ (text_at area ordered p ++ 0 ∷ []))) (sym l) (join area (number_there p 4 (omega arith)) (closed (p + 4) n h z))

    pub text_read : {p q : ℕ} (xs : List ℕ) → length xs < 2 ^ 32 → Lies area p q (text ordered xs) → (q ≡ text_end area ordered p) × (text_last area ordered p ≡ 0) × (text_at area ordered p ≡ xs)
    text_read {p} {q} xs h k =
        let ds = digits ordered 4 (length xs) in
        let l : length ds ≡ 4 = laws.size (bytes_of 4 (length xs)) ∙ length_bytes_of 4 (length xs) in
        subst
        (λ (n : ℕ). (q ≡ p + 4 + n + 1) × (get_or area (p + 4 + n) 0 ≡ 0) × (take n (drop (p + 4) area) ≡ xs))
        (sym (number_read 4 (length xs) h (first area ds (xs ++ 0 ∷ []) k)))
        (closing xs (subst (λ (n : ℕ). Lies area (p + n) q (xs ++ 0 ∷ [])) l (second area ds (xs ++ 0 ∷ []) k)))
