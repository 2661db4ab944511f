-- Bytes that lie from one place up to another: read, taken apart and put together.
use Rattle.std.proofs.lemmas.Grind.{common_steps}
use Rattle.std.proofs.Common.{◌≡◌, ℕ, ◌+◌, ◌-◌, ◌<◌, ◌≤◌, List, [], ◌++◌, length, get_or, take, drop, replicate, sym, refl, ap, ◌∙◌, subst, ap₂, arith, take-add}
use Rattle.std.proofs.lemmas.List.{length-take, length-drop, length-append, length-replicate, get_or-take, get_or-drop, get_or-replicate, take-take, take_at, drop_at, drop-drop, drop-take, ext_get_or}
use Rattle.std.proofs.lemmas.Slice.{between_is}
use Rattle.items.specs.Items.{Zero}
use Rattle.encoding.specs.Encodings.{Lies}

module _ (bytes : List ℕ) where
  -- what stands there
  pub there : (p n : ℕ) → p + n ≤ length bytes → Lies bytes p (p + n) (take n (drop p bytes))
  there p n h = grind (arith, common_steps)

  pub long : {p q : ℕ} {xs : List ℕ} → Lies bytes p q xs → q ≡ p + length xs
  long {p} {q} {xs} h = grind (arith, common_steps)

  pub alone : {p q : ℕ} {xs : List ℕ} → Lies bytes p q xs → take (length xs) (drop p bytes) ≡ xs
  alone {p} {q} {xs} h = grind (arith, common_steps)

  pub reads : {p q : ℕ} {xs : List ℕ} → Lies bytes p q xs → (k : ℕ) → k < length xs → get_or bytes (p + k) 0 ≡ get_or xs k 0
  reads {p} {q} {xs} h k l = grind (arith, common_steps)

  pub from_reads : (p : ℕ) (xs : List ℕ) → p + length xs ≤ length bytes → ((k : ℕ) → k < length xs → get_or bytes (p + k) 0 ≡ get_or xs k 0) → Lies bytes p (p + length xs) xs
  from_reads p xs h same =
      let n = length xs in
      let l : length (take n (drop p bytes)) ≡ n = omega (arith, length-take n (drop p bytes), length-drop p bytes) in
      let e : take n (drop p bytes) ≡ xs = ext_get_or 0 (take n (drop p bytes)) xs l (λ k b. let s : k < n = omega arith in get_or-take n (drop p bytes) k 0 s ∙ get_or-drop p bytes k 0 ∙ same k s) in
      subst (λ (ys : List ℕ). Lies bytes p (p + n) ys) e (there p n h)

  pub nothing : (p : ℕ) → p ≤ length bytes → Lies bytes p p []
  nothing p h = grind (arith, common_steps)

  -- one behind the other
  pub join : {p q r : ℕ} {xs ys : List ℕ} → Lies bytes p q xs → Lies bytes q r ys → Lies bytes p r (xs ++ ys)
  join {p} {q} {r} h k =
      let o = h.order in
      let i = k.order in
      let sum : r - p ≡ q - p + (r - q) = omega arith in
      let to : p + (q - p) ≡ q = omega arith in
      record {
        order = omega arith;
        inside = k.inside;
        is = ap (λ (n : ℕ). take n (drop p bytes)) sum
            ∙ take-add (q - p) (r - q) (drop p bytes)
            ∙ ap₂ ◌++◌ h.is (ap (take (r - q)) (drop-drop (q - p) p bytes ∙ ap (λ (n : ℕ). drop n bytes) to) ∙ k.is);
      }

  pub first : {p r : ℕ} (xs ys : List ℕ) → Lies bytes p r (xs ++ ys) → Lies bytes p (p + length xs) xs
  first {p} {r} xs ys h =
      let l = long h in
      let s = length-append xs ys in
      let i = h.inside in
      let m : length xs ≤ r - p = omega arith in
      let e : take (length xs) (drop p bytes) ≡ xs =
      sym (take-take (length xs) (r - p) (drop p bytes) m) ∙ ap (take (length xs)) h.is ∙ take_at xs ys (length xs) refl in
      subst (λ (zs : List ℕ). Lies bytes p (p + length xs) zs) e (there p (length xs) (omega arith))

  pub second : {p r : ℕ} (xs ys : List ℕ) → Lies bytes p r (xs ++ ys) → Lies bytes (p + length xs) r ys
  second {p} {r} xs ys h =
      let m = length xs in
      let l = long h in
      let s = length-append xs ys in
      let sum : m + (r - (p + m)) ≡ r - p = omega arith in
      record {
        order = omega arith;
        inside = h.inside;
        is = ap (take (r - (p + m))) (sym (drop-drop m p bytes))
            ∙ sym (drop-take m (r - (p + m)) (drop p bytes))
            ∙ ap (λ (n : ℕ). drop m (take n (drop p bytes))) sum
            ∙ ap (drop m) h.is
            ∙ drop_at xs ys m refl;
      }

  -- in the bytes up to an end
  same_part : (p q end : ℕ) → q ≤ end → take (q - p) (drop p (take end bytes)) ≡ take (q - p) (drop p bytes)
  same_part p q end h = grind (arith, common_steps, between_is, take-take)

  pub within : (end : ℕ) {p q : ℕ} {xs : List ℕ} → q ≤ end → Lies bytes p q xs → Lies (take end bytes) p q xs
  within end {p} {q} h k = grind (arith, common_steps, same_part, length-take)

  pub without : (end : ℕ) {p q : ℕ} {xs : List ℕ} → Lies (take end bytes) p q xs → (q ≤ end) × Lies bytes p q xs
  without end {p} {q} k = grind (arith, common_steps, same_part, length-take)

  -- zero bytes
  pub zeros : (p q : ℕ) → p ≤ q → q ≤ length bytes → Zero bytes p q → Lies bytes p q (replicate (q - p) 0)
  zeros p q h i zero =
      let xs : List ℕ = replicate (q - p) 0 in
      let l : length xs ≡ q - p = length-replicate (q - p) 0 in
      let e : p + length xs ≡ q = omega arith in
      subst (λ (r : ℕ). Lies bytes p r xs) e (from_reads p xs (omega arith) (λ k b. zero (p + k) (omega arith) (omega arith) ∙ sym (get_or-replicate (q - p) k 0 0 (omega arith))))

  pub zero_there : (p q : ℕ) → Lies bytes p q (replicate (q - p) 0) → Zero bytes p q
  zero_there p q h k lo hi =
      let xs : List ℕ = replicate (q - p) 0 in
      let l : length xs ≡ q - p = length-replicate (q - p) 0 in
      let e : p + (k - p) ≡ k = omega arith in
      ap (λ (n : ℕ). get_or bytes n 0) (sym e) ∙ reads h (k - p) (omega arith) ∙ get_or-replicate (q - p) (k - p) 0 0 (omega arith)
