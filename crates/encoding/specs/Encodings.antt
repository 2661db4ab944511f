-- The bytes of values, from a place of a message on.
use Rattle.std.specs.Prelude.{◌≡◌, ℕ, ◌+◌, ◌-◌, ◌^◌, ◌<◌, ◌≤◌, cond, ◌↔◌, List, [], ◌∷◌, ◌++◌, length, take, drop, replicate, Ok}
use Rattle.std.specs.List.{AllByRecursion}
use Rattle.order.specs.Numbers.{Byte, bytes_of}
use Rattle.signature.specs.declared.codes.Alignment.{Alignment}
use Rattle.signature.specs.declared.codes.Alignment.TheVariants.{Four, Eight}
use Rattle.signature.specs.declared.codes.Basic.{Basic}
use Rattle.signature.specs.declared.codes.Basic.TheVariants as basics
use Rattle.signature.specs.Codes.{align, basic_align, step}
use Rattle.signature.specs.Trees.{Tree, Element, Trees, spell, spell_all, head_of_element}
use Rattle.items.specs.Items.{aligned}
use Rattle.items.specs.declared.Span.{Span}
use Rattle.values.specs.Values.{Values, Spelled, within}
use Rattle.encoding.specs.Data.{Content, Datum, plain, tuple, list, tagged, Data, nil, cons, Items, empty, push, ShallowAll}

-- bytes that lie from a place of a message on
abbrev pub Layout : Type 0
Layout = ℕ → List ℕ

-- the same bytes at every place
abbrev pub anywhere : List ℕ → Layout
anywhere xs p = xs

-- one behind the other
abbrev pub followed : Layout → Layout → Layout
followed f g p = f p ++ g (p + length (f p))

-- the first place at or after p that has the alignment
abbrev pub place : Alignment → ℕ → ℕ
place a p = aligned (step a) p

-- zero bytes up to there, and then what lies there
abbrev pub padded : Alignment → Layout → Layout
padded a f p = replicate (place a p - p) 0 ++ f (place a p)

-- the bytes of a signature: its length in one byte, and a zero byte behind it
abbrev pub codes : List ℕ → List ℕ
codes xs = length xs ∷ (xs ++ 0 ∷ [])

module _ (ordered : List ℕ → List ℕ) where
  -- a number of so many bytes
  abbrev pub digits : ℕ → ℕ → List ℕ
  digits size n = ordered (bytes_of size n)

  -- a text or a path: its length in four bytes, and a zero byte behind it
  abbrev pub text : List ℕ → List ℕ
  text xs = digits 4 (length xs) ++ (xs ++ 0 ∷ [])

  -- a value of a basic type behind its padding
  abbrev pub content : (b : Basic) → Content b → List ℕ
  content basics.Byte n = digits 1 n.value
  content basics.Boolean b = digits 4 (cond b 1 0)
  content basics.Int16 n = digits 2 n.value
  content basics.Uint16 n = digits 2 n.value
  content basics.Int32 n = digits 4 n.value
  content basics.Uint32 n = digits 4 n.value
  content basics.Int64 n = digits 8 n.value
  content basics.Uint64 n = digits 8 n.value
  content basics.Double n = digits 8 n.value
  content basics.Text w = text w.bytes
  content basics.Path w = text w.bytes
  content basics.Signature w = codes w.bytes

  -- an array behind its padding: the length of its elements in four bytes, padding, the elements
  abbrev pub counted : Alignment → Layout → Layout
  counted a f p = digits 4 (length (f (place a (p + 4)))) ++ padded a f (p + 4)

  abbrev mutual
    -- the bytes of a value
    pub encode : {t : Tree} → Datum t → Layout
    encode (plain {b} c) = padded (basic_align b) (anywhere (content b c))
    encode (tuple ds) = padded Eight (encode_all ds)
    encode (list {e} xs) = padded Four (counted (align (head_of_element e)) (encode_items xs))
    encode (tagged {t} one d) = followed (anywhere (codes (spell t []))) (encode d)

    pub encode_all : {ts : Trees} → Data ts → Layout
    encode_all nil = anywhere []
    encode_all (cons d ds) = followed (encode d) (encode_all ds)

    pub encode_items : {e : Element} → Items e → Layout
    encode_items empty = anywhere []
    encode_items (push d xs) = followed (encode d) (encode_items xs)

-- the bytes from p up to q are xs
pub record Lies (bytes : List ℕ) (p q : ℕ) (xs : List ℕ) : Type 0 where
  pub order : p ≤ q
  pub inside : q ≤ length bytes
  pub is : take (q - p) (drop p bytes) ≡ xs

-- the bytes from p up to q, and not past the end, are the encoding of values of the types, none of them too deep
pub record Encoded (ordered : List ℕ → List ℕ) (bytes : List ℕ) (around end : ℕ) (ts : Trees) (p q : ℕ) : Type 0 where
  pub values : Data ts
  pub shallow : ShallowAll around values
  pub lies : Lies bytes p q (encode_all ordered values p)
  pub within : q ≤ end

-- an order of bytes: it only puts bytes in another order, and twice back in the same
pub record IsByteOrder (ordered : List ℕ → List ℕ) : Type 0 where
  pub twice : (xs : List ℕ) → ordered (ordered xs) ≡ xs
  pub size : (xs : List ℕ) → length (ordered xs) ≡ length xs
  pub bytes : (xs : List ℕ) → AllByRecursion Byte xs → AllByRecursion Byte (ordered xs)

-- From p on, values of the types are read, up to q, exactly if the bytes up to q are the encoding of some.
abbrev pub Law : Type 0
Law =
    (ordered : List ℕ → List ℕ) → IsByteOrder ordered → (bytes : List ℕ) → AllByRecursion Byte bytes → length bytes < 2 ^ 32
    → (around end : ℕ) (ts : Trees) (p q : ℕ) → p ≤ end → end ≤ length bytes
    → Values ordered bytes around end ts p (Ok q) ↔ Encoded ordered bytes around end ts p q

-- from `at` on and up to q lies the encoding of values of the types of a signature that lies in the message too
pub record EncodedAt (ordered : List ℕ → List ℕ) (bytes : List ℕ) (codes_span : Span) (at end q : ℕ) : Type 0 where
  pub place : at ≤ end
  pub inside : end ≤ length bytes
  pub spelled : Spelled bytes codes_span
  pub types : Trees
  pub spells : spell_all types [] ≡ within bytes codes_span
  pub encoded : Encoded ordered bytes 0 end types at q
