-- A code is of one head.
use Rattle.std.proofs.Common.{◌≡◌, ℕ, cond, eqb, sym, refl, ap, ◌∙◌, arith}
use Rattle.signature.specs.declared.codes.Basic.{Basic}
use Rattle.signature.specs.declared.codes.Basic.TheVariants.{Byte, Boolean, Int16, Uint16, Int32, Uint32, Int64, Uint64, Double, Text, Path, Signature}
use Rattle.signature.specs.declared.codes.Head.{Head}
use Rattle.signature.specs.declared.codes.Head.TheVariants as head
use Rattle.signature.specs.Codes.{code, head_code}

of_code : ℕ → Head
of_code c =
    cond (eqb c 121) (head.Basic Byte) (cond (eqb c 98) (head.Basic Boolean) (cond (eqb c 110) (head.Basic Int16) (cond (eqb c 113) (head.Basic Uint16)
    (cond (eqb c 105) (head.Basic Int32) (cond (eqb c 117) (head.Basic Uint32) (cond (eqb c 120) (head.Basic Int64) (cond (eqb c 116) (head.Basic Uint64)
    (cond (eqb c 100) (head.Basic Double) (cond (eqb c 115) (head.Basic Text) (cond (eqb c 111) (head.Basic Path) (cond (eqb c 103) (head.Basic Signature)
    (cond (eqb c 118) head.Variant (cond (eqb c 97) head.Array (cond (eqb c 40) head.Struct head.Entry))))))))))))))

back : (h : Head) → of_code (head_code h) ≡ h
unfolding of_code
back (head.Basic Byte) = refl
back (head.Basic Boolean) = refl
back (head.Basic Int16) = refl
back (head.Basic Uint16) = refl
back (head.Basic Int32) = refl
back (head.Basic Uint32) = refl
back (head.Basic Int64) = refl
back (head.Basic Uint64) = refl
back (head.Basic Double) = refl
back (head.Basic Text) = refl
back (head.Basic Path) = refl
back (head.Basic Signature) = refl
back head.Variant = refl
back head.Array = refl
back head.Struct = refl
back head.Entry = refl

pub head_once : (h k : Head) → head_code h ≡ head_code k → h ≡ k
head_once h k e = sym (back h) ∙ ap of_code e ∙ back k

pub code_once : (b d : Basic) → code b ≡ code d → b ≡ d
code_once b d e = let f = head_once (head.Basic b) (head.Basic d) e in cc

-- no head has the code of a closing bracket
pub not_closing : (h : Head) → (head_code h ≡ 41 → ⊥) × (head_code h ≡ 125 → ⊥)
not_closing (head.Basic Byte) = omega arith
not_closing (head.Basic Boolean) = omega arith
not_closing (head.Basic Int16) = omega arith
not_closing (head.Basic Uint16) = omega arith
not_closing (head.Basic Int32) = omega arith
not_closing (head.Basic Uint32) = omega arith
not_closing (head.Basic Int64) = omega arith
not_closing (head.Basic Uint64) = omega arith
not_closing (head.Basic Double) = omega arith
not_closing (head.Basic Text) = omega arith
not_closing (head.Basic Path) = omega arith
not_closing (head.Basic Signature) = omega arith
not_closing head.Variant = omega arith
not_closing head.Array = omega arith
not_closing head.Struct = omega arith
not_closing head.Entry = omega arith

-- the kinds of head, to tell them apart
abbrev kind : Head → ℕ
kind (head.Basic b) = 0
kind head.Variant = 1
kind head.Array = 2
kind head.Struct = 3
kind head.Entry = 4

pub apart : {A : Type 0} {h k : Head} → h ≡ k → (kind h ≡ kind k → ⊥) → A
apart e ne = absurd (ne (ap kind e))
