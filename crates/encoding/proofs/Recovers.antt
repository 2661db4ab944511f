-- What is read as values is the encoding of some.
use Rattle.std.proofs.Common.{◌≡◌, ℕ, ◌+◌, ◌≤◌, List, [], ◌++◌, length, take, Ok, Err, Result, sym, subst, arith}
use Rattle.std.proofs.lemmas.List.{length-take}
use Rattle.std.proofs.ByRecursion.{All-take}
use Rattle.std.specs.List.{AllByRecursion}
use Rattle.order.specs.Numbers.{Byte}
use Rattle.signature.specs.declared.codes.Basic.{Basic}
use Rattle.signature.specs.Codes.{align}
use Rattle.signature.specs.Trees.{Tree, basic, variant, array, struct, Element, Trees, more, spell, head_of_element, Single}
use Rattle.items.specs.declared.fault.Flaw.{Flaw}
use Rattle.items.specs.declared.Span.{Span}
use Rattle.items.specs.Items.{Leaf, Typed, Opened, Headed, codes_at}
use Rattle.items.proofs.Once.{opened_moves, headed_moves}
use Rattle.values.specs.Values.{lies_as, Value, leaf, struct_bad, struct_is, array_bad, array_is, variant_bad, variant_is, Values, ends, goes, fails, Elements, no_more, one_more, bad_one}
use Rattle.encoding.specs.Data.{Datum, plain, tuple, list, tagged, Data, nil, cons, Items, empty, push, Shallow, ShallowAll, ShallowItems}
use Rattle.encoding.specs.Encodings.{Lies, IsByteOrder, codes, encode, encode_all, encode_items}
use Rattle.encoding.proofs.Spans.{long, nothing, join, within, without}
use Rattle.encoding.proofs.Reading.{opened_tells, coded_tells, leaf_tells, headed_tells}

module _ (ordered : List ℕ → List ℕ) (laws : IsByteOrder ordered) (bytes : List ℕ) (all : AllByRecursion Byte bytes) where
  -- where all is well, there is a value, and it lies there
  abbrev One : ℕ → ℕ → Tree → ℕ → Result ℕ Flaw → Type 0
  One around end t p (Ok q) = (d : Datum t) × Shallow around d × Lies bytes p q (encode ordered d p) × (q ≤ end)
  One around end t p (Err f) = Unit {0}

  abbrev pub Many : ℕ → ℕ → Trees → ℕ → Result ℕ Flaw → Type 0
  Many around end ts p (Ok q) = (ds : Data ts) × ShallowAll around ds × Lies bytes p q (encode_all ordered ds p) × (q ≤ end)
  Many around end ts p (Err f) = Unit {0}

  abbrev Each : ℕ → ℕ → Element → ℕ → Result ℕ Flaw → Type 0
  Each around end e p (Ok q) = (xs : Items e) × ShallowItems around xs × Lies bytes p q (encode_items ordered xs p) × (q ≡ end)
  Each around end e p (Err f) = Unit {0}

  -- one behind the other
  follow : (f : ℕ → List ℕ) {p q r : ℕ} {xs : List ℕ} → Lies bytes p q xs → Lies bytes q r (f q) → Lies bytes p r (xs ++ f (p + length xs))
  follow f {p} {q} {r} h k = join bytes h (subst (λ (n : ℕ). Lies bytes q r (f n)) (long bytes h) k)

  module _ (around end p : ℕ) where
    abbrev area : List ℕ
    area = take end bytes

    leaf_one : (b : Basic) (r : Result ℕ Flaw) → Leaf area ordered b around p r → One around end (basic b) p r
    leaf_one b (Ok q) h =
        let told = leaf_tells area ordered laws (All-take Byte end bytes all) b around p q h in
        let out = without bytes end told.1 in
        (plain told.0, told.2, out.1, out.0)
    leaf_one b (Err f) h = tt

    struct_one : (t : Tree) (ts : Trees) (q : ℕ) → Opened area around p (Ok q) → (r : Result ℕ Flaw) → Many (around + 1) end (more t ts) q r → One around end (struct t ts) p r
    struct_one t ts q o (Ok s) m =
        let told = opened_tells area around p q o in
        let members = subst (λ (n : ℕ). Lies bytes n s (encode_all ordered m.0 n)) told.0 m.2 in
        (tuple m.0, (told.2, m.1), join bytes (without bytes end told.1).1 members, m.3)
    struct_one t ts q o (Err f) m = tt

    array_one : (e : Element) (s : Span) → Headed area ordered (align (head_of_element e)) around p (Ok s) → (r : Result ℕ Flaw) → Each (around + 1) s.to e s.from r → One around end (array e) p r
    array_one e s h (Ok q) m =
        let told = headed_tells area ordered laws (All-take Byte end bytes all) (align (head_of_element e)) around p s h in
        let inside : s.to ≤ end = omega (arith, told.2, length-take end bytes) in
        let items = within bytes end inside (subst (λ (n : ℕ). Lies bytes s.from n (encode_items ordered m.0 s.from)) m.3 m.2) in
        let whole = (without bytes end (told.3 (encode_items ordered m.0) items)).1 in
        (list m.0, (told.0, m.1), subst (λ (n : ℕ). Lies bytes p n (encode ordered (list m.0) p)) (sym m.3) whole, omega (arith, m.3))
    array_one e s h (Err f) m = tt

    variant_one : (t : Tree) (q : ℕ) → Typed area around p (Ok q) → spell t [] ≡ codes_at area p → (r : Result ℕ Flaw) → One (around + 1) end t q r → One around end variant p r
    variant_one t q h e (Ok s) m =
        let told = coded_tells area Single around p q h in
        let type = subst (λ (xs : List ℕ). Lies bytes p q (codes xs)) (sym e) (without bytes end told.1).1 in
        (tagged (subst Single (sym e) told.0) m.0, (told.2, m.1), follow (encode ordered m.0) type m.2, m.3)
    variant_one t q h e (Err f) m = tt

    cons_many : (t : Tree) (ts : Trees) (q : ℕ) → One around end t p (Ok q) → (r : Result ℕ Flaw) → Many around end ts q r → Many around end (more t ts) p r
    cons_many t ts q v (Ok s) m = (cons v.0 m.0, (v.1, m.1), follow (encode_all ordered m.0) v.2 m.2, m.3)
    cons_many t ts q v (Err f) m = tt

    push_each : (e : Element) (q : ℕ) → One around end (lies_as e) p (Ok q) → (r : Result ℕ Flaw) → Each around end e q r → Each around end e p r
    push_each e q v (Ok s) m = (push v.0 m.0, (v.1, m.1), follow (encode_items ordered m.0) v.2 m.2, m.3)
    push_each e q v (Err f) m = tt

  -- from a place inside on
  inner : (end : ℕ) {p q : ℕ} {xs : List ℕ} → Lies bytes p q xs → q ≤ end → q ≤ length (take end bytes)
  inner end h to = let i = h.inside in omega (arith, length-take end bytes)

  mutual
    value_one : {around end : ℕ} {t : Tree} {p : ℕ} {r : Result ℕ Flaw} → Value ordered bytes around end t p r → One around end t p r
    value_one (leaf {around} {end} {p} {b} {r} h) = leaf_one around end p b r h
    value_one (struct_bad h) = tt
    value_one (struct_is {around} {end} {p} {t} {ts} {r} q o vs) =
        struct_one around end p t ts q o r (values_many vs (opened_moves (take end bytes) around p q o).1)
    value_one (array_bad h) = tt
    value_one (array_is {around} {end} {p} {e} {r} s h es) =
        let m = headed_moves (take end bytes) ordered (align (head_of_element e)) around p s h in
        array_one around end p e s h r (elements_each es (omega (arith, m.1, m.2, length-take end bytes)))
    value_one (variant_bad h) = tt
    value_one (variant_is {around} {end} {p} {t} {r} q h e v) = variant_one around end p t q h e r (value_one v)

    pub values_many : {around end : ℕ} {ts : Trees} {p : ℕ} {r : Result ℕ Flaw} → Values ordered bytes around end ts p r → p ≤ length (take end bytes) → Many around end ts p r
    values_many (ends {around} {end} {p}) h =
        let l = length-take end bytes in
        (nil, tt, nothing bytes p (omega arith), omega arith)
    values_many (goes {around} {end} {p} {t} {ts} {r} q v vs) h =
        let one = value_one v in
        cons_many around end p t ts q one r (values_many vs (inner end one.2 one.3))
    values_many (fails v) h = tt

    elements_each : {around end : ℕ} {e : Element} {p : ℕ} {r : Result ℕ Flaw} → Elements ordered bytes around end e p r → p ≤ length bytes → Each around end e p r
    elements_each (no_more {p = p} s) h = (empty, tt, nothing bytes p h, s)
    elements_each (one_more {around} {end} {p} {e} {r} q l v es) h =
        let one = value_one v in
        push_each around end p e q one r (elements_each es one.2.inside)
    elements_each (bad_one l v) h = tt
