-- What a step makes of the messages of each connection.
use Rattle.std.proofs.Common.{◌≡◌, ℕ, zero, suc, ◌+◌, ◌-◌, ◌*◌, ◌<◌, ◌≤◌, List, [], ◌∷◌, ◌++◌, length, get_or, take, drop, set, replicate, vec_items, sym, refl, ap, ◌∙◌, ⊎_elim, arith}
use Rattle.std.proofs.lemmas.List.{nil_from_length, get_or-replicate, drop_more, get_or-set_same, get_or-set_other, get_or_append_left, get_or_push, length_push}
use Rattle.std.proofs.lemmas.List.FromFn.{fill_by_all, length-map-range_with_len}
use Rattle.std.proofs.lemmas.Bool.{cases_lt}
use Rattle.mailbox.specs.Lists.{tabled}
use Rattle.shelf.specs.declared.places.Ring.{Ring}
use Rattle.shelf.specs.declared.places.Shelf.{Shelf}
use Rattle.shelf.specs.Rows.{ring_at, slot, kept, row}
use Rattle.shelf.specs.Meaning.{ring_in, row_of, kept_in, slot_in, count_in}
use Rattle.shelf.specs.Changes.{Turned, Appended, emptied, advanced, filled}
use Rattle.shelf.specs.Laws.{ring_holds, size_holds, row_length, row_at, row_is, slot_lt}
use Rattle.shelf.proofs.Slots.{place_ne, place_step, written_here, written_other}

-- the oldest message of c
pub row_first : (s : Shelf) (c : ℕ) (m : List ℕ) → 0 < count_in s c → m ≡ kept_in s (slot_in s c 0) → row_of s c ≡ m ∷ drop 1 (row_of s c)
row_first s c m some e =
    drop_more (row_of s c) 0 [] (omega (arith, row_length s c))
    ∙ ap (λ (x : List ℕ). x ∷ drop 1 (row_of s c)) (row_at s c 0 some ∙ sym e)

module _ (s t : Shelf) (c : ℕ) (hc : c < 16) where
  -- a ring set for c
  ring_here : (r : Ring) → t.rings ≡ set s.rings c r → ring_in t c ≡ r
  ring_here r e = ap (λ (rs : List Ring). ring_at rs c) e ∙ get_or-set_same s.rings c r _ (omega (arith, s.ringed))

  ring_other : (r : Ring) → t.rings ≡ set s.rings c r → (d : ℕ) → (d ≡ c → ⊥) → ring_in t d ≡ ring_in s d
  ring_other r e d ne = ap (λ (rs : List Ring). ring_at rs d) e ∙ get_or-set_other s.rings c d r _ ne

  pub turned_other : (r : Ring) → Turned s t c r → (d : ℕ) → (d ≡ c → ⊥) → row_of t d ≡ row_of s d
  turned_other r e d ne = let same = ring_other r e.rings d ne in cc

  -- clear
  pub emptied_here : Turned s t c (emptied (ring_in s c)) → row_of t c ≡ []
  emptied_here e = nil_from_length (row_of t c) (row_length t c ∙ ap (λ (r : Ring). r.count) (ring_here _ e.rings))

  -- take
  module _ (e : Turned s t c (advanced s.limit (ring_in s c))) (some : 0 < count_in s c) where
    ring_is : ring_in t c ≡ advanced s.limit (ring_in s c)
    ring_is = ring_here _ e.rings

    fewer : count_in t c ≡ count_in s c - 1
    fewer = ap (λ (r : Ring). r.count) ring_is

    next : (k : ℕ) → k + 1 < count_in s c → slot_in t c k ≡ slot_in s c (k + 1)
    next k h =
        let r = ring_holds s c hc in
        let p = place_step s.limit (ring_in s c).head k (omega (arith, r.starts, r.fills)) (omega (arith, r.fills)) in
        let q = ring_is in
        cc

    places : (k : ℕ) → k < count_in s c → get_or (kept_in s (slot_in s c 0) ∷ row_of t c) k [] ≡ kept_in s (slot_in s c k)
    places zero h = refl
    places (suc k) h =
        let more : k + 1 ≡ suc k = omega arith in
        let is = row_at t c k (omega (arith, fewer)) in
        let at = next k (omega arith) ∙ ap (slot_in s c) more in
        cc

    pub advanced_here : (m : List ℕ) → m ≡ kept_in s (slot_in s c 0) → row_of s c ≡ m ∷ row_of t c
    advanced_here m first =
        sym (row_is s c (kept_in s (slot_in s c 0) ∷ row_of t c) (omega (arith, row_length t c, fewer)) places)
        ∙ ap (λ (x : List ℕ). x ∷ row_of t c) (sym first)

  -- put
  module _ (m : List ℕ) (a : Appended s t c m) (free : count_in s c < s.limit) (short : length m ≤ 1024) where
    new : ℕ
    new = slot_in s c (count_in s c)

    new_lt : new < 16 * s.limit
    unfolding new
    new_lt = slot_lt s c (count_in s c) hc free

    kept_other : (at : ℕ) → at < 16 * s.limit → (at ≡ new → ⊥) → kept_in t at ≡ kept_in s at
    unfolding new
    kept_other at h ne =
        let l = new_lt in
        ap (λ (n : ℕ). take n (drop (1024 * at) (vec_items t.area))) (ap (λ (xs : List ℕ). get_or xs at 0) a.lengths ∙ get_or-set_other s.lengths new at (length m) 0 ne)
        ∙ ap (λ (xs : List ℕ). take (get_or s.lengths at 0) (drop (1024 * at) xs)) a.area
        ∙ written_other (vec_items s.area) m new (omega (arith, s.room, s.area.ok.0)) short at (get_or s.lengths at 0) ne (size_holds s at h).1

    kept_new : kept_in t new ≡ m
    unfolding new
    kept_new =
        let l = new_lt in
        ap (λ (n : ℕ). take n (drop (1024 * new) (vec_items t.area))) (ap (λ (xs : List ℕ). get_or xs new 0) a.lengths ∙ get_or-set_same s.lengths new (length m) 0 (omega (arith, s.most, s.measured)))
        ∙ ap (λ (xs : List ℕ). take (length m) (drop (1024 * new) xs)) a.area
        ∙ written_here (vec_items s.area) m new (omega (arith, s.room, s.area.ok.0)) short

    pub appended_other : (d : ℕ) → d < 16 → (d ≡ c → ⊥) → row_of t d ≡ row_of s d
    unfolding new
    appended_other d hd ne =
        let same = ring_other _ a.rings d ne in
        row_is s d (row_of t d) (row_length t d ∙ ap (λ (r : Ring). r.count) same)
        (λ k h.
        let slot : slot_in t d k ≡ slot_in s d k = cc in
        let lt = slot_lt s d k hd (omega (arith, (ring_holds s d hd).fills)) in
        row_at t d k (omega (arith, ap (λ (r : Ring). r.count) same)) ∙ ap (kept_in t) slot ∙ kept_other (slot_in s d k) lt (λ e. ne (omega arith)))

    pub appended_here : row_of t c ≡ row_of s c ++ (m ∷ [])
    unfolding new
    appended_here =
        let is : ring_in t c ≡ filled (ring_in s c) = ring_here _ a.rings in
        let n = ap (λ (r : Ring). r.count) is in
        let old = row_length s c in
        sym (row_is t c (row_of s c ++ (m ∷ [])) (omega (arith, length_push (row_of s c) m))
        (λ k h.
        let head : (ring_in t c).head ≡ (ring_in s c).head = ap (λ (r : Ring). r.head) is in
        let slot : slot_in t c k ≡ slot_in s c k = cc in
        ⊎_elim
        (λ (lt : k < count_in s c).
        get_or_append_left (row_of s c) (m ∷ []) [] k (omega arith)
        ∙ row_at s c k lt
        ∙ sym (kept_other (slot_in s c k) (slot_lt s c k hc (omega arith)) (λ e. place_ne s.limit (ring_in s c).head k (count_in s c) (omega (arith, (ring_holds s c hc).starts)) lt free (omega arith)))
        ∙ ap (kept_in t) (sym slot))
        (λ ge.
        let same : k ≡ count_in s c = omega arith in
        get_or_push (row_of s c) m [] k (omega arith)
        ∙ sym kept_new
        ∙ ap (kept_in t) (sym (slot ∙ ap (slot_in s c) same)))
        (cases_lt k (count_in s c))))

row_long : (limit : ℕ) (r : Ring) (lengths area : List ℕ) (c : ℕ) → length (row limit r lengths area c) ≡ r.count
unfolding row
row_long limit r lengths area c = length-map-range_with_len (λ k. kept lengths area (slot limit r c k)) 0 r.count

-- where no connection has any
pub none_wait : (limit : ℕ) (r : Ring) (lengths area : List ℕ) → r.count ≡ 0 → tabled (λ c. row limit (ring_at (replicate 16 r) c) lengths area c) ≡ replicate 16 []
unfolding tabled
none_wait limit r lengths area none =
    sym (fill_by_all _ (replicate 16 []) 16 [] refl
    (λ k h.
    get_or-replicate {A = List (List ℕ)} 16 k [] [] h
    ∙ sym (nil_from_length (row limit (ring_at (replicate 16 r) k) lengths area k)
    (row_long limit (ring_at (replicate 16 r) k) lengths area k ∙ ap (λ (x : Ring). x.count) (get_or-replicate {A = Ring} 16 k r _ h) ∙ none))))
