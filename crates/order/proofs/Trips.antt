-- Bytes to a number and back, at every width.
use Rattle.std.proofs.Common.{◌≡◌, ℕ, zero, suc, ◌+◌, ◌*◌, ◌/◌, ◌%◌, ◌^◌, ◌<◌, List, [], ◌∷◌, length, sym, refl, ap, ◌∙◌, ap₂, pow-suc, arith}
use Rattle.std.specs.List.{AllByRecursion}
use Rattle.order.specs.Numbers.{Byte, number, bytes_of}

low : (b m : ℕ) → b < 256 → (b + 256 * m) % 256 ≡ b
low b m h = omega arith

high : (b m : ℕ) → b < 256 → (b + 256 * m) / 256 ≡ m
high b m h = omega arith

pub read_written : (xs : List ℕ) → AllByRecursion Byte xs → bytes_of (length xs) (number xs) ≡ xs
read_written [] h = refl
read_written (x ∷ xs) h =
    ap₂ ◌∷◌ (low x (number xs) h.0) (ap (bytes_of (length xs)) (high x (number xs) h.0) ∙ read_written xs h.1)

pub written_read : (n x : ℕ) → x < 256 ^ n → number (bytes_of n x) ≡ x
written_read zero x h = let e : x ≡ 0 = omega arith in sym e
written_read (suc n) x h =
    let p = pow-suc 256 n in
    let rest = written_read n (x / 256) (omega arith) in
    omega arith

pub length_bytes_of : (n x : ℕ) → length (bytes_of n x) ≡ n
length_bytes_of zero x = refl
length_bytes_of (suc n) x = ap suc (length_bytes_of n (x / 256))

pub bytes_of_bytes : (n x : ℕ) → AllByRecursion Byte (bytes_of n x)
bytes_of_bytes zero x = tt
bytes_of_bytes (suc n) x = (omega arith, bytes_of_bytes n (x / 256))
