-- The marks of byte orders, and the numbers of types.
use Rattle.std.specs.Prelude.{◌≡◌, ℕ, cond, List, Result, reverse, ◌==◌, ◌≢◌, MatchResult}
use Rattle.order.specs.Numbers.{as_they_lie}
use Rattle.frame.specs.declared.kinds.Order.{Order}
use Rattle.frame.specs.declared.kinds.Order.TheVariants.{Little, Big}
use Rattle.frame.specs.declared.kinds.NoOrder.{NoOrder}
use Rattle.frame.specs.declared.kinds.Kind.{Kind}
use Rattle.frame.specs.declared.kinds.Kind.TheVariants.{Call, Return, Error, Signal, Other}
use Rattle.frame.specs.declared.kinds.NoKind.{NoKind}

-- `l` and `B`
abbrev pub mark : Order → ℕ
mark Little = 108
mark Big = 66

-- a byte is the mark of this order, or of none
abbrev pub Marks : ℕ → Result Order NoOrder → Type 0
Marks byte r = MatchResult r (λ o. mark o ≡ byte) (λ _. (o : Order) → mark o ≢ byte)

-- the bytes of a number as they lie, put the least significant first
abbrev pub ordered : Order → List ℕ → List ℕ
ordered Little = as_they_lie
ordered Big = reverse

-- the type of a number
abbrev pub kind_at : ℕ → Kind
kind_at n = cond (n == 1) Call (cond (n == 2) Return (cond (n == 3) Error (cond (n == 4) Signal (Other n))))

-- each number but 0 is that of a type
abbrev pub Numbers : ℕ → Result Kind NoKind → Type 0
Numbers n r = MatchResult r (λ k. (n ≢ 0) × (k ≡ kind_at n)) (λ _. n ≡ 0)
