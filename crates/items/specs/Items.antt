-- The items of a message. `area` is the message up to the end of the innermost array or part: nothing lies past it.
-- An item at p comes to where it ends, or to its flaw, that with the lowest cause.
use Rattle.std.specs.Prelude.{◌≡◌, ℕ, ◌+◌, ◌-◌, ◌%◌, ◌<◌, ◌≤◌, cond, List, length, take, drop, Result, ◌==◌, slice_index}
use Rattle.order.specs.Numbers.{number}
use Rattle.text.specs.Texts as texts
use Rattle.text.specs.Grammar as names
use Rattle.signature.specs.declared.codes.Alignment.{Alignment}
use Rattle.signature.specs.declared.codes.Alignment.TheVariants.{Four, Eight}
use Rattle.signature.specs.declared.codes.Basic.{Basic}
use Rattle.signature.specs.declared.codes.Basic.TheVariants as basic
use Rattle.signature.specs.Codes.{basic_align, step}
use Rattle.signature.specs.Trees as types
use Rattle.items.specs.declared.fault.Flaw.{Flaw}
use Rattle.items.specs.declared.fault.Cause.TheVariants.{Padding, PastEnd, Text, Boolean, Name, Signature, Depth}
use Rattle.items.specs.declared.Span.{Span}
use Rattle.items.specs.Faults.{Is, Provided, Then}

-- the first multiple of n at or after p
abbrev pub aligned : ℕ → ℕ → ℕ
aligned n p = cond (p % n == 0) p (p + (n - p % n))

module _ (area : List ℕ) where
  -- the bytes from p up to q are zero
  abbrev pub Zero : ℕ → ℕ → Type 0
  Zero p q = (k : ℕ) → p ≤ k → k < q → slice_index area k ≡ 0

  -- padding
  abbrev pub Pad : Alignment → ℕ → Result ℕ Flaw → Type 0
  Pad a p = Provided (aligned (step a) p ≤ length area) PastEnd p (Provided (Zero p (aligned (step a) p)) Padding p (Is (aligned (step a) p)))

  -- with at most 64 arrays, structs, dict entries and variants around it, it ends at q
  abbrev pub Shallow : ℕ → ℕ → ℕ → Result ℕ Flaw → Type 0
  Shallow around p q = Provided (around ≤ 64) Depth p (Is q)

  -- n bytes
  abbrev pub Fixed : ℕ → ℕ → ℕ → Result ℕ Flaw → Type 0
  Fixed around n p = Provided (p + n ≤ length area) PastEnd p (Shallow around p (p + n))

  -- n bytes behind a length of h bytes, with a zero byte at their end
  abbrev pub Closed : ℕ → ℕ → ℕ → Result Span Flaw → Type 0
  Closed h n p =
      Provided (p + h + n + 1 ≤ length area) PastEnd p (Provided (slice_index area (p + h + n) ≡ 0) Text p (Is (record { from = p + h; to = p + h + n })))

  -- a signature: its length, its bytes, where it ends, and the last of it
  abbrev pub codes_at : ℕ → List ℕ
  codes_at p = take (slice_index area p) (drop (p + 1) area)

  abbrev pub codes_end : ℕ → ℕ
  codes_end p = p + 1 + slice_index area p + 1

  abbrev pub codes_last : ℕ → ℕ
  codes_last p = slice_index area (p + 1 + slice_index area p)

  abbrev pub Coded : (List ℕ → Type 0) → ℕ → ℕ → Result ℕ Flaw → Type 0
  Coded Valid around p =
      Provided (codes_end p ≤ length area) PastEnd p (Provided (codes_last p ≡ 0) Text p (Provided (Valid (codes_at p)) Signature p (Shallow around p (codes_end p))))

  -- the type of a variant or of a field: exactly one complete type
  abbrev pub Typed : ℕ → ℕ → Result ℕ Flaw → Type 0
  Typed = Coded types.Single

  -- the beginning of a struct or dict entry
  abbrev pub Begun : ℕ → ℕ → Result ℕ Flaw → Type 0
  Begun around q = Shallow around q q

  abbrev pub Opened : ℕ → ℕ → Result ℕ Flaw → Type 0
  Opened around p = Then (Pad Eight p) (Begun around)

  module _ (ordered : List ℕ → List ℕ) where
    abbrev pub number_at : ℕ → ℕ
    number_at p = number (ordered (take 4 (drop p area)))

    abbrev pub Truth : ℕ → ℕ → Result ℕ Flaw → Type 0
    Truth around p = Provided (p + 4 ≤ length area) PastEnd p (Provided (number_at p ≤ 1) Boolean p (Shallow around p (p + 4)))

    -- a text: its bytes, where it ends, and the last of it
    abbrev pub text_at : ℕ → List ℕ
    text_at p = take (number_at p) (drop (p + 4) area)

    abbrev pub text_end : ℕ → ℕ
    text_end p = p + 4 + number_at p + 1

    abbrev pub text_last : ℕ → ℕ
    text_last p = slice_index area (p + 4 + number_at p)

    abbrev pub Texted : ℕ → ℕ → Result ℕ Flaw → Type 0
    Texted around p =
        Provided (text_end p ≤ length area) PastEnd p (Provided ((text_last p ≡ 0) × texts.Text (text_at p)) Text p (Shallow around p (text_end p)))

    abbrev pub Pathed : ℕ → ℕ → Result ℕ Flaw → Type 0
    Pathed around p =
        Provided (text_end p ≤ length area) PastEnd p (Provided (text_last p ≡ 0) Text p (Provided (names.Path (text_at p)) Name p (Shallow around p (text_end p))))

    -- a value of a basic type behind its padding
    abbrev pub Item : Basic → ℕ → ℕ → Result ℕ Flaw → Type 0
    Item basic.Byte around p = Fixed around 1 p
    Item basic.Boolean around p = Truth around p
    Item basic.Int16 around p = Fixed around 2 p
    Item basic.Uint16 around p = Fixed around 2 p
    Item basic.Int32 around p = Fixed around 4 p
    Item basic.Uint32 around p = Fixed around 4 p
    Item basic.Int64 around p = Fixed around 8 p
    Item basic.Uint64 around p = Fixed around 8 p
    Item basic.Double around p = Fixed around 8 p
    Item basic.Text around p = Texted around p
    Item basic.Path around p = Pathed around p
    Item basic.Signature around p = Coded types.Signature around p

    -- a value of a basic type
    abbrev pub Leaf : Basic → ℕ → ℕ → Result ℕ Flaw → Type 0
    Leaf b around p = Then (Pad (basic_align b) p) (Item b around)

    -- where the elements of an array lie whose length stands at p
    abbrev pub elements_at : Alignment → ℕ → Span
    elements_at a p = record { from = aligned (step a) (p + 4); to = aligned (step a) (p + 4) + number_at p }

    -- the head of an array behind its padding: all of the array lies before the end
    abbrev pub Extent : Alignment → ℕ → ℕ → Result Span Flaw → Type 0
    Extent a around p =
        Provided ((elements_at a p).to ≤ length area) PastEnd p (Provided (around ≤ 64) Depth p (Provided (Zero (p + 4) (elements_at a p).from) Padding (p + 4) (Is (elements_at a p))))

    abbrev pub Headed : Alignment → ℕ → ℕ → Result Span Flaw → Type 0
    Headed a around p = Then (Pad Four p) (Extent a around)
