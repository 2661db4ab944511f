-- Where the messages of a shelf lie.
use Rattle.std.specs.Prelude.{ℕ, ◌+◌, ◌-◌, ◌*◌, ◌≤◌, cond, List, map, take, drop, nat_lt, slice_index, slice_index_or}
use Rattle.std.specs.List.{range_with_len}
use Rattle.shelf.specs.declared.places.Ring.{Ring}

-- so many places: the head is one of them, and no more messages wait
pub record IsRingOf (limit : ℕ) (ring : Ring) : Type 0 where
  pub starts : ring.head ≤ limit - 1
  pub fills : ring.count ≤ limit

-- by connection
abbrev pub ring_at : List Ring → ℕ → Ring
ring_at rings c = slice_index_or rings c (record { head = 0; count = 0 })

-- in a ring of so many places, the k-th from the head on
abbrev pub place : ℕ → ℕ → ℕ → ℕ
place limit head k = cond (nat_lt (head + k) limit) (head + k) (head + k - limit)

-- the slot of the k-th oldest message of c
abbrev pub slot : ℕ → Ring → ℕ → ℕ → ℕ
slot limit ring c k = 16 * place limit ring.head k + c

-- the message in a slot
abbrev pub kept : List ℕ → List ℕ → ℕ → List ℕ
kept lengths area at = take (slice_index lengths at) (drop (1024 * at) area)

-- the messages of c, the oldest first
unfoldable pub row : ℕ → Ring → List ℕ → List ℕ → ℕ → List (List ℕ)
row limit ring lengths area c =
    map (λ k. kept lengths area (slot limit ring c k)) (range_with_len 0 ring.count)
