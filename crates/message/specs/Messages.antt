-- What reading a message comes to: what it holds, or its one fault.
use Rattle.std.specs.Prelude.{◌≡◌, ℕ, ◌+◌, List, [], ◌∷◌, length, Some, None, Ok, Err, Option, Result, slice_index}
use Rattle.std.specs.List.{AllByRecursion}
use Rattle.items.specs.declared.Span.{Span}
use Rattle.items.specs.declared.fault.Cause.TheVariants.{MissingField, LeftOver}
use Rattle.items.specs.declared.fault.Fault.{Fault}
use Rattle.items.specs.declared.fault.Flaw.{Flaw}
use Rattle.items.specs.declared.fault.Part.{Part}
use Rattle.items.specs.declared.fault.Part.TheVariants as part
use Rattle.items.specs.Faults.{Is, Provided, Then}
use Rattle.values.specs.Values.{Read}
use Rattle.frame.specs.declared.Frame.{Frame}
use Rattle.frame.specs.Firsts.{frame_size}
use Rattle.frame.specs.declared.kinds.Kind.{Kind}
use Rattle.frame.specs.declared.kinds.Kind.TheVariants.{Call, Return, Error, Signal, Other}
use Rattle.frame.specs.Frames.{Framed, body_start}
use Rattle.frame.specs.Kinds.{ordered}
use Rattle.fields.specs.declared.Fields.{Fields}
use Rattle.fields.specs.declared.known.Field.{Field}
use Rattle.fields.specs.declared.known.Field.TheVariants.{Path, Interface, Member, ErrorName, ReplySerial, Signature}
use Rattle.fields.specs.Headers.{place_of, Header}
use Rattle.message.specs.declared.Layout.{Layout}

-- a flaw in a part of the message is a fault
abbrev pub placed : {X : Type 0} → Part → Result X Flaw → Result X Fault
placed p (Ok x) = Ok x
placed p (Err f) = Err (record { part = p; cause = f.cause; byte = f.byte })

abbrev pub In : {X : Type 0} → Part → (Result X Flaw → Type 0) → Result X Fault → Type 0
In {X} p A r = (x : Result X Flaw) × A x × (r ≡ placed p x)

-- the codes of the body's types: those of the signature that begins at a place, none where there is no such field
abbrev pub codes_of : List ℕ → Option ℕ → Span
codes_of bytes None = record { from = 0; to = 0 }
codes_of bytes (Some p) = record { from = p + 1; to = p + 1 + slice_index bytes p }

-- the fields that a type of message needs
abbrev pub needed : Kind → List Field
needed Call = Path ∷ Member ∷ []
needed Return = ReplySerial ∷ []
needed Error = ErrorName ∷ ReplySerial ∷ []
needed Signal = Path ∷ Interface ∷ Member ∷ []
needed (Other n) = []

abbrev pub Has : List (Option ℕ) → Field → Type 0
Has places f = place_of places f ≡ None → ⊥

abbrev pub Complete : Kind → List (Option ℕ) → Type 0
Complete kind places = AllByRecursion (Has places) (needed kind)

-- after the values, which end at q: no needed field is missing, and nothing is left over
abbrev pub Whole : Frame → Fields → ℕ → Result ℕ Flaw → Type 0
Whole f s q = Provided (Complete f.kind s.places) MissingField frame_size (Is q)

abbrev pub Filled : List ℕ → Frame → Fields → ℕ → Result Layout Flaw → Type 0
Filled bytes f s q = Provided (q ≡ length bytes) LeftOver q (Is (record { frame = f; fields = s }))

module _ (order : List ℕ → List ℕ) (bytes : List ℕ) (f : Frame) where
  abbrev pub Ended : Fields → ℕ → Result Layout Fault → Type 0
  Ended s q = In part.Body (Filled bytes f s q)

  abbrev pub AfterValues : Fields → ℕ → Result Layout Fault → Type 0
  AfterValues s q = Then (In part.Fields (Whole f s q)) (Ended s)

  -- the values of the body
  abbrev pub Contents : Fields → Result ℕ Flaw → Type 0
  Contents s = Read order bytes (codes_of bytes (place_of s.places Signature)) (body_start f) (length bytes)

  abbrev pub AfterFields : Fields → Result Layout Fault → Type 0
  AfterFields s = Then (In part.Body (Contents s)) (AfterValues s)

  abbrev pub AfterFrame : Result Layout Fault → Type 0
  AfterFrame = Then (In part.Fields (Header order bytes (frame_size + f.fields))) AfterFields

-- a frame decides the order of all that follows
abbrev pub Framing : List ℕ → Frame → Result Layout Fault → Type 0
Framing bytes f = AfterFrame (ordered f.order) bytes f

-- a message of at most so many bytes
abbrev pub Reading : ℕ → List ℕ → Result Layout Fault → Type 0
Reading limit bytes = Then (In part.Frame (Framed limit bytes)) (Framing bytes)

-- bytes that are a message, whose parts lie so
abbrev pub IsMessage : List ℕ → Layout → Type 0
IsMessage bytes layout = (limit : ℕ) × Reading limit bytes (Ok layout)

-- bytes come to one result
abbrev pub Decided : Type 0
Decided = (limit : ℕ) (bytes : List ℕ) (r q : Result Layout Fault) → Reading limit bytes r → Reading limit bytes q → r ≡ q
