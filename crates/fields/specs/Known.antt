-- The known fields: their codes and types.
use Rattle.std.specs.Prelude.{◌≡◌, ℕ, cond, Some, None, Option, Result, ◌==◌, MatchResult}
use Rattle.signature.specs.declared.codes.Basic.{Basic}
use Rattle.signature.specs.declared.codes.Basic.TheVariants as basic
use Rattle.fields.specs.declared.known.Field.{Field}
use Rattle.fields.specs.declared.known.UnknownField.{UnknownField}
use Rattle.fields.specs.declared.known.Field.TheVariants.{Path, Interface, Member, ErrorName, ReplySerial, Destination, Sender, Signature}

-- codes 1 to 8; all others are unknown
abbrev pub known : ℕ → Option Field
known c =
    cond (c == 1) (Some Path) (cond (c == 2) (Some Interface) (cond (c == 3) (Some Member) (cond (c == 4) (Some ErrorName)
    (cond (c == 5) (Some ReplySerial) (cond (c == 6) (Some Destination) (cond (c == 7) (Some Sender) (cond (c == 8) (Some Signature) None)))))))

-- a code is that of this field, or of an unknown one
abbrev pub Codes : ℕ → Result Field UnknownField → Type 0
Codes c r = MatchResult r (λ f. known c ≡ Some f) (λ _. known c ≡ None)

abbrev pub field_type : Field → Basic
field_type Path = basic.Path
field_type Interface = basic.Text
field_type Member = basic.Text
field_type ErrorName = basic.Text
field_type ReplySerial = basic.Uint32
field_type Destination = basic.Text
field_type Sender = basic.Text
field_type Signature = basic.Signature

-- the place of a field among the eight, one less than its code
abbrev pub index_of : Field → ℕ
index_of Path = 0
index_of Interface = 1
index_of Member = 2
index_of ErrorName = 3
index_of ReplySerial = 4
index_of Destination = 5
index_of Sender = 6
index_of Signature = 7
