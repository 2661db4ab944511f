-- How a line is read: the word before its first space, the text after it, and what the two say.
use Rattle.std.specs.Prelude.{ℕ, ◌+◌, Bool, cond, ◌&&◌, List, length, drop, position, Some, None, codes, Option, ◌==◌, nat_le}
use Rattle.std.specs.List.{list_all, before_first}
use Rattle.std.specs.Option.{option_map}
use Rattle.std.specs.Str.{bytes_eq}
use Rattle.handshake.specs.declared.parse.Line.{Line}
use Rattle.handshake.specs.declared.parse.Line.TheVariants as line

-- What a line says.
pub data Command : Type 0 where
  external : List ℕ → Command
  other_auth : Command
  error : Command
  begin : Command
  cancel : Command
  unknown : Command

-- printable ASCII: the bytes 32 to 126
abbrev pub printable : List ℕ → Bool
printable bs = list_all (λ b. nat_le 32 b && nat_le b 126) bs

-- before the first space; the whole line if there is none
abbrev pub word : List ℕ → List ℕ
word bs = before_first (λ b. b == 32) bs

-- after the first space, if there is one
abbrev pub text : List ℕ → Option (List ℕ)
text bs = option_map (λ i. drop (i + 1) bs) (position (λ b. b == 32) bs)

-- AUTH is judged if its text is EXTERNAL, a space and a text
abbrev pub mechanism : List ℕ → Option (List ℕ) → Command
mechanism name None = other_auth
mechanism name (Some response) = cond (bytes_eq name (codes "EXTERNAL")) (external response) other_auth

abbrev pub authority : Option (List ℕ) → Command
authority None = other_auth
authority (Some rest) = mechanism (word rest) (text rest)

-- BEGIN and CANCEL take no text
abbrev pub alone : List ℕ → Option (List ℕ) → Command
alone w None = cond (bytes_eq w (codes "BEGIN")) begin (cond (bytes_eq w (codes "CANCEL")) cancel unknown)
alone w (Some t) = unknown

abbrev pub command : List ℕ → Option (List ℕ) → Command
command w t = cond (bytes_eq w (codes "AUTH")) (authority t) (cond (bytes_eq w (codes "ERROR")) error (alone w t))

-- a line of over 256 bytes, or with a byte that is not printable, says nothing
abbrev pub read : List ℕ → Command
read bs = cond (nat_le (length bs) 256 && printable bs) (command (word bs) (text bs)) unknown

-- the program's own reading of a line
abbrev pub meant : Line → Command
meant (line.External response) = external response.now
meant line.Auth = other_auth
meant line.Error = error
meant line.Begin = begin
meant line.Cancel = cancel
meant line.Unknown = unknown
