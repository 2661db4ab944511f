-- The first 16 bytes of a message, one by one.
use Rattle.std.specs.Prelude.{◌≡◌, ℕ, ◌+◌, ◌≤◌, List, [], ◌∷◌, length, slice_index}
use Rattle.frame.specs.declared.read.First.{First}

-- how many bytes a frame takes
abbrev pub frame_size : ℕ
frame_size = 16

-- four bytes from p on
abbrev pub four : List ℕ → ℕ → List ℕ
four bytes p = slice_index bytes p ∷ slice_index bytes (p + 1) ∷ slice_index bytes (p + 2) ∷ slice_index bytes (p + 3) ∷ []

pub record FirstOf (bytes : List ℕ) (x : First) : Type 0 where
  pub long : frame_size ≤ length bytes
  pub mark : x.mark ≡ slice_index bytes 0
  pub kind : x.kind ≡ slice_index bytes 1
  pub flags : x.flags ≡ slice_index bytes 2
  pub version : x.version ≡ slice_index bytes 3
  pub body : x.body ≡ four bytes 4
  pub serial : x.serial ≡ four bytes 8
  pub fields : x.fields ≡ four bytes 12
