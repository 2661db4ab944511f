-- The encoding of values is read as values.
use Rattle.std.proofs.Common.{◌≡◌, ℕ, ◌+◌, ◌^◌, ◌<◌, ◌≤◌, List, [], length, take, Ok, sym, subst, arith}
use Rattle.std.proofs.lemmas.List.{length-take}
use Rattle.signature.specs.declared.codes.Alignment.TheVariants.{Eight}
use Rattle.signature.specs.Codes.{align}
use Rattle.signature.specs.Trees.{Tree, Element, Trees, none, more, spell, head_of_element, Single}
use Rattle.items.proofs.Once.{leaf_moves, headed_moves}
use Rattle.values.specs.Values.{Value, leaf, struct_is, array_is, variant_is, Values, ends, goes, Elements, no_more, one_more}
use Rattle.encoding.specs.Data.{Datum, plain, tuple, list, tagged, Data, nil, cons, Items, empty, push, Shallow, ShallowAll, ShallowItems}
use Rattle.encoding.specs.Encodings.{Lies, IsByteOrder, place, codes, encode, encode_all, encode_items}
use Rattle.encoding.proofs.Spans.{long, first, second, within, without}
use Rattle.encoding.proofs.Pieces.{unpad, codes_read}
use Rattle.encoding.proofs.Writing.{opened_passes, coded_passes, leaf_passes, headed_passes}

-- one type or more
abbrev Filled : Trees → Type 0
Filled none = ⊥
Filled (more t ts) = Unit {0}

module _ (ordered : List ℕ → List ℕ) (laws : IsByteOrder ordered) (bytes : List ℕ) (short : length bytes < 2 ^ 32) where
  -- a value takes at least one byte
  mutual
    moves : {t : Tree} (d : Datum t) {p q : ℕ} → Lies bytes p q (encode ordered d p) → p < q
    moves (plain {b} c) {p} {q} h = (leaf_moves bytes ordered b 0 p q (leaf_passes bytes 0 (omega arith) ordered laws short b p q c h)).0
    moves (tuple ds) {p} {q} h =
        let parts = unpad bytes Eight (encode_all ordered ds) h in
        omega (arith, parts.0.order, moves_all ds tt parts.1)
    moves (list {e} xs) {p} {q} h =
        let array = headed_passes bytes 0 (omega arith) ordered laws short (align (head_of_element e)) (encode_items ordered xs) p q h in
        omega (arith, (headed_moves bytes ordered (align (head_of_element e)) 0 p array.span array.head).0, array.elements.order)
    moves (tagged one d) h = omega (arith, long bytes h)

    moves_all : {ts : Trees} (ds : Data ts) → Filled ts → {p q : ℕ} → Lies bytes p q (encode_all ordered ds p) → p < q
    moves_all nil f h = absurd f
    moves_all (cons d ds) f {p} {q} h =
        let m = p + length (encode ordered d p) in
        omega (arith, moves d (first bytes (encode ordered d p) (encode_all ordered ds m) h), (second bytes (encode ordered d p) (encode_all ordered ds m) h).order)

  area_short : (end : ℕ) → length (take end bytes) < 2 ^ 32
  area_short end = omega (arith, length-take end bytes)

  mutual
    value_of : {t : Tree} (d : Datum t) (around end p q : ℕ) → Shallow around d → q ≤ end → Lies bytes p q (encode ordered d p) → Value ordered bytes around end t p (Ok q)
    value_of (plain {b} c) around end p q few to h = leaf (leaf_passes (take end bytes) around few ordered laws (area_short end) b p q c (within bytes end to h))
    value_of (tuple ds) around end p q few to h =
        let parts = unpad bytes Eight (encode_all ordered ds) h in
        let o = parts.1.order in
        struct_is (place Eight p)
        (opened_passes (take end bytes) around few.0 p (within bytes end (omega arith) parts.0))
        (values_of ds (around + 1) end (place Eight p) q few.1 to parts.1)
    value_of (list {e} xs) around end p q few to h =
        let head = headed_passes (take end bytes) around few.0 ordered laws (area_short end) (align (head_of_element e)) (encode_items ordered xs) p q (within bytes end to h) in
        let s = head.span in
        array_is s head.head
        (subst
        (λ (r : ℕ). Elements ordered bytes (around + 1) r e s.from (Ok q))
        (sym head.to_end)
        (items_of xs (around + 1) s.from q few.1 (without bytes end head.elements).1))
    value_of (tagged {t} one d) around end p q few to h =
        let cs = codes (spell t []) in
        let m = p + length cs in
        let v = second bytes cs (encode ordered d m) h in
        let o = v.order in
        let c = within bytes end (omega arith) (first bytes cs (encode ordered d m) h) in
        variant_is m
        (coded_passes (take end bytes) around few.0 Single p m (spell t []) one c)
        (sym (codes_read (take end bytes) (spell t []) c).2)
        (value_of d (around + 1) end m q few.1 to v)

    pub values_of : {ts : Trees} (ds : Data ts) (around end p q : ℕ) → ShallowAll around ds → q ≤ end → Lies bytes p q (encode_all ordered ds p) → Values ordered bytes around end ts p (Ok q)
    values_of nil around end p q few to h =
        let l = long bytes h in
        let e : p ≡ q = omega arith in
        subst (λ (r : ℕ). Values ordered bytes around end none p (Ok r)) e ends
    values_of (cons d ds) around end p q few to h =
        let m = p + length (encode ordered d p) in
        let v = second bytes (encode ordered d p) (encode_all ordered ds m) h in
        let o = v.order in
        goes m
        (value_of d around end p m few.0 (omega arith) (first bytes (encode ordered d p) (encode_all ordered ds m) h))
        (values_of ds around end m q few.1 to v)

    items_of : {e : Element} (xs : Items e) (around p q : ℕ) → ShallowItems around xs → Lies bytes p q (encode_items ordered xs p) → Elements ordered bytes around q e p (Ok q)
    items_of {e} empty around p q few h =
        let l = long bytes h in
        let s : p ≡ q = omega arith in
        subst (λ (r : ℕ). Elements ordered bytes around q e p (Ok r)) s (no_more s)
    items_of (push d xs) around p q few h =
        let m = p + length (encode ordered d p) in
        let w = first bytes (encode ordered d p) (encode_items ordered xs m) h in
        let v = second bytes (encode ordered d p) (encode_items ordered xs m) h in
        let o = v.order in
        one_more m (omega (arith, moves d w, o))
        (value_of d around q p m few.0 o w)
        (items_of xs around m q few.1 v)
