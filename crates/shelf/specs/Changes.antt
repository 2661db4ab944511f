-- What a step of a shelf changes.
use Rattle.std.specs.Prelude.{◌≡◌, ℕ, ◌+◌, ◌-◌, ◌*◌, List, length, vec_items, slice_set}
use Rattle.area.specs.Writes.{written}
use Rattle.shelf.specs.declared.places.Ring.{Ring}
use Rattle.shelf.specs.declared.places.Shelf.{Shelf}
use Rattle.shelf.specs.Rows.{place}
use Rattle.shelf.specs.Meaning.{ring_in, slot_in, count_in}

-- nothing waits
abbrev pub emptied : Ring → Ring
emptied ring = record { head = ring.head; count = 0 }

-- the head is one place on
abbrev pub advanced : ℕ → Ring → Ring
advanced limit ring = record { head = place limit ring.head 1; count = ring.count - 1 }

-- one more waits
abbrev pub filled : Ring → Ring
filled ring = record { head = ring.head; count = ring.count + 1 }

-- the ring of c is another
pub record Turned (s t : Shelf) (c : ℕ) (ring : Ring) : Type 0 where
  pub limit : t.limit ≡ s.limit
  pub rings : t.rings ≡ slice_set s.rings c ring
  pub lengths : t.lengths ≡ s.lengths
  pub area : vec_items t.area ≡ vec_items s.area

-- a message stands in a slot, and its length beside it
pub record Written (s t : Shelf) (at : ℕ) (message : List ℕ) : Type 0 where
  pub limit : t.limit ≡ s.limit
  pub rings : t.rings ≡ s.rings
  pub lengths : t.lengths ≡ slice_set s.lengths at (length message)
  pub area : vec_items t.area ≡ written (vec_items s.area) (1024 * at) message

-- a message stands behind the newest of c
pub record Appended (s t : Shelf) (c : ℕ) (message : List ℕ) : Type 0 where
  pub limit : t.limit ≡ s.limit
  pub rings : t.rings ≡ slice_set s.rings c (filled (ring_in s c))
  pub lengths : t.lengths ≡ slice_set s.lengths (slot_in s c (count_in s c)) (length message)
  pub area : vec_items t.area ≡ written (vec_items s.area) (1024 * slot_in s c (count_in s c)) message
