-- What holds of the lists of every shelf.
use Rattle.std.specs.List.{All}
use Rattle.std.specs.Prelude.{◌≡◌, ℕ, ◌+◌, ◌-◌, ◌*◌, ◌<◌, List, [], length, drop, vec_items, nat_lt, slice_index, slice_index_or}
use Rattle.std.proofs.Common.{arith}
use Rattle.std.proofs.lemmas.List.FromFn.{length-map-range_with_len, get_or-map-range_with_len, fill_by_all}
use Rattle.std.proofs.lemmas.List.{length-take-le, length-drop}
use Rattle.std.proofs.lemmas.List.Elements.{All-get_or, All-from_get_or}
use Rattle.std.proofs.lemmas.Bool.{cond_both, ltb-true}
use Rattle.mailbox.specs.Lists.{Laws, IsSize}
use Rattle.mailbox.proofs.Tables.{laws_of}
use Rattle.shelf.specs.declared.places.Shelf.{Shelf}
use Rattle.shelf.specs.Rows.{IsRingOf, place, row}
use Rattle.shelf.specs.Meaning.{ring_in, row_of, lists_of, limit_of, kept_in, slot_in, count_in}

-- a place lies in the ring
place_lt : (limit head k : ℕ) → head < limit → k < limit → place limit head k < limit
place_lt limit head k a b =
    cond_both (nat_lt (head + k) limit) (head + k) (head + k - limit) (λ (p : ℕ). p < limit) (ltb-true (head + k) limit) (λ e. omega arith)

-- the messages of c are known by their number and their slots
module _ (s : Shelf) (c : ℕ) where
  at_place : ℕ → List ℕ
  at_place k = kept_in s (slot_in s c k)

  pub row_length : length (row_of s c) ≡ count_in s c
  unfolding row at_place
  row_length = length-map-range_with_len at_place 0 (count_in s c)

  pub row_at : (k : ℕ) → k < count_in s c → slice_index_or (row_of s c) k [] ≡ kept_in s (slot_in s c k)
  unfolding row at_place
  row_at k h = get_or-map-range_with_len at_place 0 (count_in s c) k k [] h (omega arith)

  pub row_is : (ms : List (List ℕ)) → length ms ≡ count_in s c → ((k : ℕ) → k < count_in s c → slice_index_or ms k [] ≡ kept_in s (slot_in s c k)) → ms ≡ row_of s c
  unfolding row at_place
  row_is ms n all = fill_by_all at_place ms (count_in s c) [] n all

module _ (s : Shelf) where
  pub ring_holds : (c : ℕ) → c < 16 → IsRingOf s.limit (ring_in s c)
  ring_holds c h = All-get_or (IsRingOf s.limit) s.rings c _ (omega (arith, s.ringed)) s.turned

  pub size_holds : (at : ℕ) → at < 16 * s.limit → IsSize (slice_index s.lengths at)
  size_holds at h = All-get_or IsSize s.lengths at 0 (omega (arith, s.measured, s.most)) s.sized

  pub slot_lt : (c k : ℕ) → c < 16 → k < s.limit → slot_in s c k < 16 * s.limit
  slot_lt c k hc hk =
      let h = (ring_holds c hc).starts in
      let p = place_lt s.limit (ring_in s c).head k (omega arith) hk in
      omega arith

  pub kept_length : (at : ℕ) → at < 16 * s.limit → length (kept_in s at) ≡ slice_index s.lengths at
  kept_length at h =
      length-take-le (slice_index s.lengths at) (drop (1024 * at) (vec_items s.area))
      (omega (arith, (size_holds at h).1, s.room, s.area.ok.0, length-drop (1024 * at) (vec_items s.area)))

  sizes : (c : ℕ) → c < 16 → All (λ m. IsSize (length m)) (row_of s c)
  sizes c hc = All-from_get_or (λ m. IsSize (length m)) (row_of s c) []
      (λ p hp.
      let n = row_length s c in
      let f = (ring_holds c hc).fills in
      let l = slot_lt c p hc (omega arith) in
      rw (row_at s c p (omega arith), kept_length (slot_in s c p) l) (size_holds (slot_in s c p) l))

pub laws : Laws lists_of limit_of
laws = laws_of row_of limit_of (λ s c h. omega (arith, row_length s c, (ring_holds s c h).fills)) (λ s c h. sizes s c h)
