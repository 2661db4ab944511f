-- The numbers of parts and causes, and how tests one after the other come to a fault.
use Rattle.std.specs.Prelude.{◌≡◌, ℕ, ◌⊎◌, Ok, Err, Result}
use Rattle.items.specs.declared.fault.Part.{Part}
use Rattle.items.specs.declared.fault.Part.TheVariants.{Frame, Fields, Body}
use Rattle.items.specs.declared.fault.Cause.{Cause}
use Rattle.items.specs.declared.fault.Cause.TheVariants.{TooShort, ByteOrder, NoType, Version, Length, NoSerial, Padding, PastEnd, Text, Boolean, Name, Signature, Depth, Field, MissingField, LeftOver}
use Rattle.items.specs.declared.fault.Flaw.{Flaw}

abbrev pub part_number : Part → ℕ
part_number Frame = 1
part_number Fields = 2
part_number Body = 3

abbrev pub cause_number : Cause → ℕ
cause_number TooShort = 1
cause_number ByteOrder = 2
cause_number NoType = 3
cause_number Version = 4
cause_number Length = 5
cause_number NoSerial = 6
cause_number Padding = 7
cause_number PastEnd = 8
cause_number Text = 9
cause_number Boolean = 10
cause_number Name = 11
cause_number Signature = 12
cause_number Depth = 13
cause_number Field = 14
cause_number MissingField = 15
cause_number LeftOver = 16

abbrev pub flaw : Cause → ℕ → Flaw
flaw c b = record { cause = c; byte = b }

-- all is well, with this outcome
abbrev pub Is : {X : Type 0} → X → Result X Flaw → Type 0
Is x r = r ≡ Ok x

-- where P holds, what K says; where it does not, a flaw
abbrev pub Provided : {X : Type 0} → Type 0 → Cause → ℕ → (Result X Flaw → Type 0) → Result X Flaw → Type 0
Provided P c b K r = (P × K r) ⊎ ((P → ⊥) × (r ≡ Err (flaw c b)))

-- first A, and then B from where A ended; the flaw of A where it has one
abbrev pub Then : {X Y E : Type 0} → (Result X E → Type 0) → (X → Result Y E → Type 0) → Result Y E → Type 0
Then {X} {Y} {E} A B r = ((x : X) × A (Ok x) × B x r) ⊎ ((f : E) × A (Err f) × (r ≡ Err f))
