-- How calls are counted. A count stops at the greatest number of 64 bits.
use Rattle.std.specs.Prelude.{ℕ, ◌+◌, ◌-◌, ◌^◌, min, Bool, cond}
use Rattle.replay.specs.declared.tally.Count.{Count}
use Rattle.replay.specs.declared.tally.Tally.{Tally}
use Rattle.stream.specs.declared.call.Call.{Call}
use Rattle.stream.specs.declared.call.Call.TheVariants.{Bus, Open, Line, Message, Tick, Take, Close}

abbrev pub plus : ℕ → ℕ → ℕ
plus m n = min (m + n) (2 ^ 64 - 1)

abbrev pub more : ℕ → ℕ
more n = plus n 1

abbrev pub once_more : Count → Bool → Count
once_more n refused = record { made = more n.made; refused = cond refused (more n.refused) n.refused }

abbrev pub zero_calls : Count
zero_calls = record { made = 0; refused = 0 }

abbrev pub none : Tally
none = record { buses = 0; opens = zero_calls; lines = zero_calls; closes = zero_calls; finished = 0; agreed = 0 }

-- a call counts with its kind, and a new bus with the buses
abbrev pub counted : Call → Bool → Tally → Tally
counted (Bus limit id) refused n = record n { buses = more n.buses }
counted (Open c uid) refused n = record n { opens = once_more n.opens refused }
counted (Line c bytes size) refused n = record n { lines = once_more n.lines refused }
counted (Message c bytes) refused n = n
counted (Tick time) refused n = n
counted (Take c size) refused n = n
counted (Close c) refused n = record n { closes = once_more n.closes refused }

abbrev pub total : Tally → ℕ
total n = plus (plus n.opens.made n.lines.made) n.closes.made
