-- Values of types, one after the other, from a place of a message: where they end, or the first flaw.
use Rattle.std.specs.Prelude.{◌≡◌, ℕ, ◌+◌, ◌-◌, ◌<◌, ◌≤◌, List, [], length, take, drop, Ok, Err, Result}
use Rattle.signature.specs.declared.codes.Basic.{Basic}
use Rattle.signature.specs.Codes.{align}
use Rattle.signature.specs.Trees.{Tree, basic, variant, array, struct, Element, single, entry, Trees, none, more, spell, spell_all, head_of_element, Signature}
use Rattle.items.specs.declared.fault.Flaw.{Flaw}
use Rattle.items.specs.declared.fault.Cause.TheVariants.{PastEnd, Signature as NoSignature}
use Rattle.items.specs.declared.Span.{Span}
use Rattle.items.specs.Faults.{Provided}
use Rattle.items.specs.Items.{Leaf, Typed, Opened, Headed, codes_at}

-- a dict entry lies as a struct of its key and its value
abbrev pub lies_as : Element → Tree
lies_as (single t) = t
lies_as (entry k t) = struct (basic k) (more t none)

-- `Value around end t p r`: with so many arrays, structs, dict entries and variants around it, and with `end` as the end of
-- the innermost array or part, the value of type t at p comes to r: where it ends, or the first flaw in it.
mutual
  pub data Value (ordered : List ℕ → List ℕ) (bytes : List ℕ) : ℕ → ℕ → Tree → ℕ → Result ℕ Flaw → Type 0 where
    leaf : {around end p : ℕ} {b : Basic} {r : Result ℕ Flaw} → Leaf (take end bytes) ordered b around p r → Value ordered bytes around end (basic b) p r
    struct_bad : {around end p : ℕ} {t : Tree} {ts : Trees} {f : Flaw} → Opened (take end bytes) around p (Err f) → Value ordered bytes around end (struct t ts) p (Err f)
    struct_is : {around end p : ℕ} {t : Tree} {ts : Trees} {r : Result ℕ Flaw} (q : ℕ) → Opened (take end bytes) around p (Ok q) → Values ordered bytes (around + 1) end (more t ts) q r → Value ordered bytes around end (struct t ts) p r
    array_bad : {around end p : ℕ} {e : Element} {f : Flaw} → Headed (take end bytes) ordered (align (head_of_element e)) around p (Err f) → Value ordered bytes around end (array e) p (Err f)
    array_is : {around end p : ℕ} {e : Element} {r : Result ℕ Flaw} (s : Span) → Headed (take end bytes) ordered (align (head_of_element e)) around p (Ok s) → Elements ordered bytes (around + 1) s.to e s.from r → Value ordered bytes around end (array e) p r
    variant_bad : {around end p : ℕ} {f : Flaw} → Typed (take end bytes) around p (Err f) → Value ordered bytes around end variant p (Err f)
    variant_is : {around end p : ℕ} {t : Tree} {r : Result ℕ Flaw} (q : ℕ) → Typed (take end bytes) around p (Ok q) → spell t [] ≡ codes_at (take end bytes) p → Value ordered bytes (around + 1) end t q r → Value ordered bytes around end variant p r

  -- values of a list of types
  pub data Values (ordered : List ℕ → List ℕ) (bytes : List ℕ) : ℕ → ℕ → Trees → ℕ → Result ℕ Flaw → Type 0 where
    ends : {around end p : ℕ} → Values ordered bytes around end none p (Ok p)
    goes : {around end p : ℕ} {t : Tree} {ts : Trees} {r : Result ℕ Flaw} (q : ℕ) → Value ordered bytes around end t p (Ok q) → Values ordered bytes around end ts q r → Values ordered bytes around end (more t ts) p r
    fails : {around end p : ℕ} {t : Tree} {ts : Trees} {f : Flaw} → Value ordered bytes around end t p (Err f) → Values ordered bytes around end (more t ts) p (Err f)

  -- elements of an array up to its end
  pub data Elements (ordered : List ℕ → List ℕ) (bytes : List ℕ) : ℕ → ℕ → Element → ℕ → Result ℕ Flaw → Type 0 where
    no_more : {around end p : ℕ} {e : Element} → p ≡ end → Elements ordered bytes around end e p (Ok p)
    one_more : {around end p : ℕ} {e : Element} {r : Result ℕ Flaw} (q : ℕ) → p < end → Value ordered bytes around end (lies_as e) p (Ok q) → Elements ordered bytes around end e q r → Elements ordered bytes around end e p r
    bad_one : {around end p : ℕ} {e : Element} {f : Flaw} → p < end → Value ordered bytes around end (lies_as e) p (Err f) → Elements ordered bytes around end e p (Err f)

-- the bytes of a span
abbrev pub within : List ℕ → Span → List ℕ
within bytes s = take (s.to - s.from) (drop s.from bytes)

-- the span lies in the message and holds a signature
pub record Spelled (bytes : List ℕ) (codes : Span) : Type 0 where
  pub order : codes.from ≤ codes.to
  pub inside : codes.to ≤ length bytes
  pub signature : Signature (within bytes codes)

-- values of the types that the codes spell
abbrev pub OfTypes : (List ℕ → List ℕ) → List ℕ → Span → ℕ → ℕ → Result ℕ Flaw → Type 0
OfTypes ordered bytes codes at end r = (ts : Trees) → spell_all ts [] ≡ within bytes codes → Values ordered bytes 0 end ts at r

-- what the reading of values comes to, wherever they are said to lie
abbrev pub Read : (List ℕ → List ℕ) → List ℕ → Span → ℕ → ℕ → Result ℕ Flaw → Type 0
Read ordered bytes codes at end =
    Provided ((at ≤ end) × (end ≤ length bytes)) PastEnd at (Provided (Spelled bytes codes) NoSignature codes.from (OfTypes ordered bytes codes at end))

-- values of given types come to one result
abbrev pub Decided : Type 0
Decided = (ordered : List ℕ → List ℕ) (bytes : List ℕ) (end : ℕ) (ts : Trees) (at : ℕ) (r q : Result ℕ Flaw) → Values ordered bytes 0 end ts at r → Values ordered bytes 0 end ts at q → r ≡ q
