-- Which numbers are a connection's.
use Rattle.std.specs.Prelude.{ℕ, ◌≡◌, ◌<◌, ◌≤◌, Result, MatchResult}
use Rattle.connection.specs.declared.Connection.{Connection}
use Rattle.connection.specs.declared.NoConnection.{NoConnection}

-- a number below 16 is the connection of that number, and no other is one
abbrev pub Numbers : ℕ → Result Connection NoConnection → Type 0
Numbers n r = MatchResult r (λ c. (n < 16) × (c.number ≡ n)) (λ _. 16 ≤ n)
