-- What a shelf means.
use Rattle.std.specs.Prelude.{ℕ, List, vec_items}
use Rattle.mailbox.specs.Lists.{Lists, tabled}
use Rattle.shelf.specs.declared.places.Ring.{Ring}
use Rattle.shelf.specs.declared.places.Shelf.{Shelf}
use Rattle.shelf.specs.Rows.{ring_at, slot, kept, row}

-- the ring of c
abbrev pub ring_in : Shelf → ℕ → Ring
ring_in s c = ring_at s.rings c

-- the messages of c
abbrev pub row_of : Shelf → ℕ → List (List ℕ)
row_of s c = row s.limit (ring_in s c) s.lengths (vec_items s.area) c

abbrev pub lists_of : Shelf → Lists
lists_of s = tabled (row_of s)

-- how many messages may wait for one connection
abbrev pub limit_of : Shelf → ℕ
limit_of s = s.limit

-- the message in a slot
abbrev pub kept_in : Shelf → ℕ → List ℕ
kept_in s at = kept s.lengths (vec_items s.area) at

-- the slot of the k-th oldest message of c
abbrev pub slot_in : Shelf → ℕ → ℕ → ℕ
slot_in s c k = slot s.limit (ring_in s c) c k

abbrev pub count_in : Shelf → ℕ → ℕ
count_in s c = (ring_in s c).count
