-- Records closed up in one row, how they lie in bytes, and the messages that they hold.
use Rattle.std.specs.Prelude.{◌≡◌, ℕ, zero, suc, ◌+◌, ◌*◌, ◌/◌, ◌%◌, ◌<◌, ◌≤◌, cond, List, [], ◌∷◌, ◌++◌, length, take, drop, ◌==◌, slice_index}
use Rattle.std.specs.List.{All}

-- a message that waits for a connection
pub record Record : Type 0 where
  pub connection : ℕ
  pub message : List ℕ

abbrev pub record_of : ℕ → List ℕ → Record
record_of c m = record { connection = c; message = m }

-- what stands before a message: its connection, and its length, the low byte first
abbrev pub head : ℕ → List ℕ → List ℕ
head c m = c ∷ (length m % 256) ∷ (length m / 256) ∷ []

-- the bytes of a row of records
abbrev pub encode : List Record → List ℕ
encode [] = []
encode (r ∷ rs) = head r.connection r.message ++ (r.message ++ encode rs)

-- how long the message is whose record begins at a place
abbrev pub length_at : List ℕ → ℕ → ℕ
length_at area at = slice_index area (at + 1) + slice_index area (at + 2) * 256

-- the first n records of an area
abbrev pub decode : ℕ → List ℕ → List Record
decode zero xs = []
decode (suc n) xs = record_of (slice_index xs 0) (take (length_at xs 0) (drop 3 xs)) ∷ decode n (drop (3 + length_at xs 0) xs)

-- the messages of c, in the order of the row
abbrev pub messages : ℕ → List Record → List (List ℕ)
messages c [] = []
messages c (r ∷ rs) = cond (r.connection == c) (r.message ∷ messages c rs) (messages c rs)

-- the records before the first of c, and those behind it
abbrev pub before : ℕ → List Record → List Record
before c [] = []
before c (r ∷ rs) = cond (r.connection == c) [] (r ∷ before c rs)

abbrev pub behind : ℕ → List Record → List Record
behind c [] = []
behind c (r ∷ rs) = cond (r.connection == c) rs (behind c rs)

-- the row closed up over the first record of c
abbrev pub without : ℕ → List Record → List Record
without c [] = []
without c (r ∷ rs) = cond (r.connection == c) rs (r ∷ without c rs)

-- n records stand at the front of the area
abbrev pub Laid : ℕ → List ℕ → Type 0
Laid n area = area ≡ encode (decode n area) ++ drop (length (encode (decode n area))) area

-- a connection that there is, and a message of 1 to 1,024 bytes
abbrev pub Good : Record → Type 0
Good r = (r.connection < 16) × (0 < length r.message) × (length r.message ≤ 1024)

abbrev pub Sound : List Record → Type 0
Sound rs = All Good rs

-- how many records each connection has
abbrev pub Tallied : List ℕ → List Record → Type 0
Tallied counts rs = (c : ℕ) → slice_index counts c ≡ length (messages c rs)

-- The first record of c, where it has one: where it begins, how long its message is, and what lies around it.
pub record First (area : List ℕ) (n used c at len : ℕ) : Type 0 where
  pub begins : at ≡ length (encode (before c (decode n area)))
  pub inside : at + 3 + len ≤ used
  pub size : length (take len (drop (at + 3) area)) ≡ len
  pub oldest : messages c (decode n area) ≡ take len (drop (at + 3) area) ∷ messages c (without c (decode n area))
  pub front : take at area ≡ encode (before c (decode n area))
  pub back : drop (at + 3 + len) area ≡ encode (behind c (decode n area)) ++ drop used area
  pub ends : used ≡ at + 3 + len + length (encode (behind c (decode n area)))
  pub count : length (without c (decode n area)) + 1 ≡ n
