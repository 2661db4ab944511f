-- The code of each type, and its alignment.
use Rattle.std.specs.Prelude.{◌≡◌, ◌≢◌, ℕ, Result, MatchResult}
use Rattle.signature.specs.declared.codes.Basic.{Basic}
use Rattle.signature.specs.declared.codes.Basic.TheVariants.{Byte, Boolean, Int16, Uint16, Int32, Uint32, Int64, Uint64, Double, Text, Path, Signature}
use Rattle.signature.specs.declared.codes.Alignment.{Alignment}
use Rattle.signature.specs.declared.codes.Alignment.TheVariants.{One, Two, Four, Eight}
use Rattle.signature.specs.declared.codes.NoCode.{NoCode}
use Rattle.signature.specs.declared.codes.Head.{Head}
use Rattle.signature.specs.declared.codes.Head.TheVariants as head

-- y b n q i u x t d s o g
abbrev pub code : Basic → ℕ
code Byte = 121
code Boolean = 98
code Int16 = 110
code Uint16 = 113
code Int32 = 105
code Uint32 = 117
code Int64 = 120
code Uint64 = 116
code Double = 100
code Text = 115
code Path = 111
code Signature = 103

-- these, and v a ( {
abbrev pub head_code : Head → ℕ
head_code (head.Basic b) = code b
head_code head.Variant = 118
head_code head.Array = 97
head_code head.Struct = 40
head_code head.Entry = 123

-- the type of this code, or that no type has it
abbrev pub IsBasicOf : ℕ → Result Basic NoCode → Type 0
IsBasicOf c r = MatchResult r (λ b. code b ≡ c) (λ _. (b : Basic) → code b ≢ c)

abbrev pub IsHeadOf : ℕ → Result Head NoCode → Type 0
IsHeadOf c r = MatchResult r (λ h. head_code h ≡ c) (λ _. (h : Head) → head_code h ≢ c)

-- y g 1; n q 2; b i u s o 4; x t d 8
abbrev pub basic_align : Basic → Alignment
basic_align Byte = One
basic_align Boolean = Four
basic_align Int16 = Two
basic_align Uint16 = Two
basic_align Int32 = Four
basic_align Uint32 = Four
basic_align Int64 = Eight
basic_align Uint64 = Eight
basic_align Double = Eight
basic_align Text = Four
basic_align Path = Four
basic_align Signature = One

-- these, and v 1; a 4; ( { 8
abbrev pub align : Head → Alignment
align (head.Basic b) = basic_align b
align head.Variant = One
align head.Array = Four
align head.Struct = Eight
align head.Entry = Eight

-- an alignment in bytes
abbrev pub step : Alignment → ℕ
step One = 1
step Two = 2
step Four = 4
step Eight = 8
