-- The numbers of the refusals.
use Rattle.std.specs.Prelude.{◌≡◌, ℕ, Result, MatchResult, ◌≢◌}
use Rattle.stream.specs.declared.fault.Fault.{Fault}
use Rattle.stream.specs.declared.fault.Fault.TheVariants.{BadNumber}
use Rattle.stream.specs.declared.refusal.Refusal.{Refusal}
use Rattle.stream.specs.declared.refusal.Refusal.TheVariants.{NoLife, Taken, ShortBuffer, AlreadyBegun, EarlyBegin, NotBegun, NoName, NoDestination, NoPendingCall, NoPlace, SerialPending, BadTime, ShortTake}

abbrev pub number_of : Refusal → ℕ
number_of NoLife = 1
number_of Taken = 2
number_of ShortBuffer = 3
number_of AlreadyBegun = 4
number_of EarlyBegin = 5
number_of NotBegun = 6
number_of NoName = 8
number_of NoDestination = 9
number_of NoPendingCall = 10
number_of NoPlace = 11
number_of SerialPending = 12
number_of BadTime = 13
number_of ShortTake = 14

-- a number is read as the refusal that has it, and refused where none has
abbrev pub Numbers : ℕ → Result Refusal Fault → Type 0
Numbers n r = MatchResult r (λ refusal. number_of refusal ≡ n) (λ e. (e ≡ BadNumber) × ((refusal : Refusal) → number_of refusal ≢ n))
