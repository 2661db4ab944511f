-- What a write answers, and what is written one after the other.
use Rattle.std.proofs.Common.{◌≡◌, ℕ, ◌+◌, ◌<◌, ◌≤◌, List, ◌++◌, length, take, drop, if◌then◌else◌, Some, None, sym, ap, ◌∙◌, ap₂, append_assoc, arith}
use Rattle.std.proofs.lemmas.List.{drop_at, drop-drop, length-append, length-take-le, take_at}
use Rattle.std.proofs.lemmas.Bool.Decides.{nat_tests}
use Rattle.area.specs.Writes.{fits, written}

-- an answer of `store`, and the area after it
module _ (area bytes : List ℕ) (at : ℕ) where
  pub stored : (end : ℕ) → (if fits area at bytes then Some (at + length bytes) else None) ≡ Some end → (end ≡ at + length bytes) × (end ≤ length area) × ((if fits area at bytes then written area at bytes else area) ≡ written area at bytes)
  stored end e = grind (arith, nat_tests)

  pub not_stored : (if fits area at bytes then Some (at + length bytes) else None) ≡ None → (length area < at + length bytes) × ((if fits area at bytes then written area at bytes else area) ≡ area)
  not_stored e = grind (arith, nat_tests)

pub written_front : (area bytes : List ℕ) → written area 0 bytes ≡ bytes ++ drop (length bytes) area
written_front area bytes = ap (λ (n : ℕ). bytes ++ drop n area) (omega arith)

-- one write behind another
pub written_twice : (area xs ys : List ℕ) (at : ℕ) → at ≤ length area → written (written area at xs) (at + length xs) ys ≡ written area at (xs ++ ys)
written_twice area xs ys at h =
    let rest = drop (at + length xs) area in
    let first = take at area ++ xs in
    let grouped : written area at xs ≡ first ++ rest = sym (append_assoc (take at area) xs rest) in
    let long : length first ≡ at + length xs = omega (arith, length-append (take at area) xs, length-take-le at area h) in
    let front : take (at + length xs) (written area at xs) ≡ first = ap (take (at + length xs)) grouped ∙ take_at first rest _ long in
    let back : drop (at + length xs) (written area at xs) ≡ rest = ap (drop (at + length xs)) grouped ∙ drop_at first rest _ long in
    let far : at + length xs + length ys ≡ at + length (xs ++ ys) = omega (arith, length-append xs ys) in
    let behind-both : drop (at + length xs + length ys) (written area at xs) ≡ drop (at + length (xs ++ ys)) area = sym (drop-drop (length ys) (at + length xs) (written area at xs)) ∙ ap (drop (length ys)) back ∙ drop-drop (length ys) (at + length xs) area ∙ ap (λ (k : ℕ). drop k area) far in
    ap₂ (λ (x y : List ℕ). x ++ (ys ++ y)) front behind-both
    ∙ append_assoc (take at area) xs (ys ++ drop (at + length (xs ++ ys)) area)
    ∙ ap (λ (x : List ℕ). take at area ++ x) (sym (append_assoc xs ys (drop (at + length (xs ++ ys)) area)))
