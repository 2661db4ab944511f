-- The texts of the handshake: what shows a uid, and what each answer says.
use Rattle.std.specs.Prelude.{ℕ, List, [], ◌∷◌, ◌++◌, length, drop, codes, decimal}
use Rattle.hex_digits.specs.Hex.{pairs}
use Rattle.handshake.specs.declared.reply.Reply.{Reply}
use Rattle.handshake.specs.declared.reply.Reply.TheVariants as reply

-- what shows a uid: its decimal text, without leading zeros, in hex
abbrev pub credential : ℕ → List ℕ
credential uid = pairs (decimal uid)

-- CR and LF
abbrev pub line_end : List ℕ
line_end = 13 ∷ 10 ∷ []

-- the bytes of an answer, for the id of the server
abbrev pub wording : List ℕ → Reply → List ℕ
wording id reply.Okay = codes "OK " ++ pairs id ++ line_end
wording id reply.Rejected = codes "REJECTED EXTERNAL" ++ line_end
wording id reply.Error = codes "ERROR" ++ line_end
wording id reply.Silence = []

-- a text written onto the front of a buffer, whose rest stays
abbrev pub onto : List ℕ → List ℕ → List ℕ
onto text buffer = text ++ drop (length text) buffer
