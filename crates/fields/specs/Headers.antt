-- The fields of a message, one after the other, and the padding behind them.
use Rattle.std.specs.Prelude.{◌≡◌, ℕ, ◌+◌, ◌<◌, ◌≤◌, List, [], ◌∷◌, length, take, replicate, Some, None, Ok, Err, Option, Result, ◌≢◌, slice_index, slice_index_or, slice_set}
use Rattle.text.specs.Grammar as names
use Rattle.signature.specs.declared.codes.Alignment.TheVariants.{Eight}
use Rattle.signature.specs.Codes.{code, basic_align, step}
use Rattle.signature.specs.Trees.{Tree, spell}
use Rattle.items.specs.declared.fault.Flaw.{Flaw}
use Rattle.items.specs.declared.fault.Cause.TheVariants as cause
use Rattle.items.specs.Faults.{Is, Provided, Then}
use Rattle.items.specs.Items.{aligned, Pad, Typed, Item, codes_at, number_at, text_at}
use Rattle.values.specs.Values.{Value}
use Rattle.frame.specs.Firsts.{frame_size}
use Rattle.fields.specs.declared.known.Field.{Field}
use Rattle.fields.specs.declared.known.Field.TheVariants.{Path, Interface, Member, ErrorName, ReplySerial, Destination, Sender, Signature}
use Rattle.fields.specs.declared.Fields.{Fields}
use Rattle.fields.specs.Known.{known, field_type, index_of}

-- where the value of a known field begins, if the field was read
abbrev pub place_of : List (Option ℕ) → Field → Option ℕ
place_of places f = slice_index_or places (index_of f) None

-- before the first field
abbrev pub none_yet : Fields
none_yet = record { places = replicate 8 None; at = frame_size }

-- a code that may stand here: an unknown one but 0 and 9, or a known one that was not read yet
abbrev pub Free : List (Option ℕ) → ℕ → Option Field → Type 0
Free places c None = (c ≢ 0) × (c ≢ 9)
Free places c (Some f) = place_of places f ≡ None

-- a known field has its own type
abbrev pub Own : Option Field → List ℕ → Type 0
Own None codes = Unit {0}
Own (Some f) codes = codes ≡ code (field_type f) ∷ []

-- where the value of a field begins, its padding passed
abbrev pub start : Option Field → ℕ → ℕ
start None p = p
start (Some f) p = aligned (step (basic_align (field_type f))) p

-- a field was read, its value from p on and up to q
abbrev pub noted : Fields → Option Field → ℕ → ℕ → Fields
noted s None p q = record { places = s.places; at = q }
noted s (Some f) p q = record { places = slice_set s.places (index_of f) (Some p); at = q }

-- `area` is the message up to the end of the fields
module _ (area : List ℕ) where
  -- the code at p
  abbrev pub Coded : Fields → ℕ → Result ℕ Flaw → Type 0
  Coded s p = Provided (p + 1 ≤ length area) cause.PastEnd p (Provided (Free s.places (slice_index area p) (known (slice_index area p))) cause.Field p (Is (slice_index area p)))

  -- the type at p of a field, which ends at q
  abbrev pub Owned : Option Field → ℕ → ℕ → Result ℕ Flaw → Type 0
  Owned o p q = Provided (Own o (codes_at area p)) cause.Field p (Is q)

  abbrev pub Kinded : Option Field → ℕ → Result ℕ Flaw → Type 0
  Kinded o p = Then (Typed area 0 p) (Owned o p)

module _ (ordered : List ℕ → List ℕ) (area : List ℕ) where
  -- the value of a known field that begins at p is a name as the field asks, or a serial
  abbrev pub Proper : Option Field → ℕ → Type 0
  Proper None p = Unit {0}
  Proper (Some Path) p = Unit {0}
  Proper (Some Interface) p = names.Interface (text_at area ordered p)
  Proper (Some Member) p = names.Member (text_at area ordered p)
  Proper (Some ErrorName) p = names.Interface (text_at area ordered p)
  Proper (Some ReplySerial) p = number_at area ordered p ≡ 0 → ⊥
  Proper (Some Destination) p = names.IsBusName (text_at area ordered p)
  Proper (Some Sender) p = names.IsBusName (text_at area ordered p)
  Proper (Some Signature) p = Unit {0}

  -- the value at p of a field, which ends at q
  abbrev pub Fitting : Fields → Option Field → ℕ → ℕ → Result Fields Flaw → Type 0
  Fitting s o p q = Provided (Proper o p) cause.Name p (Is (noted s o p q))

module _ (ordered : List ℕ → List ℕ) (bytes : List ℕ) (end : ℕ) where
  -- a value of the type that stands at t, its padding from p on
  abbrev pub Valued : Fields → Option Field → ℕ → ℕ → Result Fields Flaw → Type 0
  Valued s o t p r =
      (type : Tree) × (spell type [] ≡ codes_at (take end bytes) t) × Then (Value ordered bytes 0 end type p) (Fitting ordered (take end bytes) s o (start o p)) r

  abbrev pub AfterCode : Fields → ℕ → ℕ → Result Fields Flaw → Type 0
  AfterCode s p c = Then (Kinded (take end bytes) (known c) p) (Valued s (known c) p)

  abbrev pub AfterPadding : Fields → ℕ → Result Fields Flaw → Type 0
  AfterPadding s p = Then (Coded (take end bytes) s p) (AfterCode s (p + 1))

  -- one field
  abbrev pub OneField : Fields → Result Fields Flaw → Type 0
  OneField s = Then (Pad (take end bytes) Eight s.at) (AfterPadding s)

-- all fields up to the end
pub data AllFields (ordered : List ℕ → List ℕ) (bytes : List ℕ) (end : ℕ) : Fields → Result Fields Flaw → Type 0 where
  no_more : {s : Fields} → end ≤ s.at → AllFields ordered bytes end s (Ok s)
  bad_one : {s : Fields} {f : Flaw} → s.at < end → OneField ordered bytes end s (Err f) → AllFields ordered bytes end s (Err f)
  one_more : {s : Fields} {r : Result Fields Flaw} (t : Fields) → s.at < end → OneField ordered bytes end s (Ok t) → AllFields ordered bytes end t r → AllFields ordered bytes end s r

-- with the padding behind them
abbrev pub Closed : Fields → ℕ → Result Fields Flaw → Type 0
Closed s q = Is s

abbrev pub Padded : List ℕ → ℕ → Fields → Result Fields Flaw → Type 0
Padded bytes end s = Then (Pad bytes Eight end) (Closed s)

-- the fields of a message, which end at `end`
abbrev pub Header : (List ℕ → List ℕ) → List ℕ → ℕ → Result Fields Flaw → Type 0
Header ordered bytes end =
    Provided ((frame_size ≤ end) × (end ≤ length bytes)) cause.PastEnd frame_size (Then (AllFields ordered bytes end none_yet) (Padded bytes end))

-- what the header has made sure of: the value of a known field lies well at p, and is as its field asks
pub record Held (ordered : List ℕ → List ℕ) (area : List ℕ) (f : Field) (p : ℕ) : Type 0 where
  pub end : ℕ
  pub lies : Item area ordered (field_type f) 0 p (Ok end)
  pub proper : Proper ordered area (Some f) p

abbrev pub Holds : (List ℕ → List ℕ) → List ℕ → List (Option ℕ) → Type 0
Holds ordered area places = (f : Field) (p : ℕ) → place_of places f ≡ Some p → Held ordered area f p
