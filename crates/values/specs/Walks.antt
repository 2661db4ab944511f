-- What a walk that stands somewhere in the values still owes.
use Rattle.std.specs.Prelude.{◌≡◌, ℕ, ◌+◌, ◌-◌, ◌*◌, ◌^◌, ◌<◌, ◌≤◌, ◌⊎◌, List, [], ◌∷◌, ◌++◌, length, drop, Err, Option, Result, MatchResult, slice_get, slice_index}
use Rattle.signature.specs.declared.codes.Head.{Head}
use Rattle.signature.specs.Codes.{head_code}
use Rattle.signature.specs.Trees.{Element, Trees, spell_element, spell_all}
use Rattle.items.specs.declared.fault.Flaw.{Flaw}
use Rattle.items.specs.Faults.{Then}
use Rattle.values.specs.declared.walk.Frame.{Frame}
use Rattle.values.specs.declared.walk.Frame.TheVariants.{Struct, Array, Variant}
use Rattle.values.specs.declared.walk.Stands.{Stands}
use Rattle.values.specs.declared.walk.Stands.TheVariants.{AtValue, PastValue}
use Rattle.values.specs.declared.walk.Walk.{Walk}
use Rattle.values.specs.Values.{lies_as, Value, Values, Elements}

-- what is around the value that is walked, from the innermost out: the rest of a struct, the other elements of an array up to
-- its end, a variant, and the types of the whole
pub data Around : Type 0 where
  top : Trees → Around
  in_struct : Trees → Around → Around
  in_array : Element → ℕ → Around → Around
  in_variant : Around → Around

abbrev pub depth_of : Around → ℕ
depth_of (top ts) = 0
depth_of (in_struct ts k) = depth_of k + 1
depth_of (in_array e q k) = depth_of k + 1
depth_of (in_variant k) = depth_of k + 1

-- the end of the innermost array, or of the whole
abbrev pub limit : ℕ → Around → ℕ
limit end (top ts) = end
limit end (in_struct ts k) = limit end k
limit end (in_array e q k) = q
limit end (in_variant k) = limit end k

-- a walk is at a value, or past one
pub data Owed : Type 0 where
  at_value : Element → Around → Owed
  past_value : Around → Owed

module _ (ordered : List ℕ → List ℕ) (bytes : List ℕ) (end : ℕ) where
  -- past a value, at p: what is around it comes to r
  abbrev pub Rest : Around → ℕ → Result ℕ Flaw → Type 0
  Rest (top ts) p r = Values ordered bytes 0 end ts p r
  Rest (in_struct ts k) p r = Then (Values ordered bytes (depth_of k + 1) (limit end k) ts p) (Rest k) r
  Rest (in_array e q k) p r = Then (Elements ordered bytes (depth_of k + 1) q e p) (Rest k) r
  Rest (in_variant k) p r = Rest k p r

  abbrev pub Comes : Owed → ℕ → Result ℕ Flaw → Type 0
  Comes (at_value e k) p r = Then (Value ordered bytes (depth_of k) (limit end k) (lies_as e) p) (Rest k) r
  Comes (past_value k) p r = Rest k p r

abbrev pub around_of : Owed → Around
around_of (at_value e k) = k
around_of (past_value k) = k

module _ (bytes : List ℕ) (codes_end end : ℕ) where
  -- the frames, and the codes xs that are to come, are those of what is around
  abbrev pub Stacked : Around → List Frame → List ℕ → Type 0
  Stacked (top ts) fs xs = (fs ≡ []) × (spell_all ts (drop codes_end bytes) ≡ xs)
  Stacked (in_struct ts k) fs xs =
      (gs : List Frame) × (fs ≡ gs ++ Struct ∷ [])
      × (c : ℕ) × (ys : List ℕ) × ((c ≡ 41) ⊎ (c ≡ 125)) × (spell_all ts (c ∷ ys) ≡ xs) × Stacked k gs ys
  Stacked (in_array e q k) fs xs =
      (gs : List Frame) × (x : ℕ) × (fs ≡ gs ++ Array x (limit end k) ∷ [])
      × (q ≤ limit end k) × (spell_element e xs ≡ drop x bytes) × Stacked k gs xs
  Stacked (in_variant k) fs xs =
      (gs : List Frame) × (x : ℕ) × (fs ≡ gs ++ Variant x ∷ [])
      × (x ≤ length bytes) × Stacked k gs (drop x bytes)

  -- so are those of a walk, whose next code is the one at s
  abbrev pub Tied : Owed → Stands → List Frame → ℕ → Type 0
  Tied (at_value e k) stands fs s = (stands ≡ AtValue) × (ys : List ℕ) × (spell_element e ys ≡ drop s bytes) × Stacked k fs ys
  Tied (past_value k) stands fs s = (stands ≡ PastValue) × (s ≤ length bytes) × Stacked k fs (drop s bytes)

-- a walk through values up to an end owes this
pub record Of (end : ℕ) (o : Owed) (w : Walk) : Type 0 where
  pub within : (w.codes_end ≤ length w.bytes.now) × (end ≤ length w.bytes.now)
  pub limited : w.end ≡ limit end (around_of o)
  pub place : w.at ≤ w.end
  pub tied : Tied w.bytes.now w.codes_end end o w.stands w.frames.items w.code

-- a walk stands somewhere in values
pub record Somewhere (w : Walk) : Type 0 where
  pub end : ℕ
  pub owed : Owed
  pub of : Of end owed w

-- it stands at a value that begins with this head
pub record AtHead (h : Head) (w : Walk) : Type 0 where
  pub here : Somewhere w
  pub value : w.stands ≡ AtValue
  pub head : head_code h ≡ slice_index w.bytes.now w.code

-- the frame of the innermost of what is around it
abbrev pub innermost : Walk → Option Frame
innermost w = slice_get w.frames.items (length w.frames.items - 1)

-- it has nothing more to walk
abbrev pub Done : Walk → Type 0
Done w = (w.stands ≡ PastValue) × (w.frames.items ≡ []) × (w.code ≡ w.codes_end)

-- from w, where o was owed, the walk came to v in the same message, and what it owes there comes to what o comes to
pub record Went (ordered : List ℕ → List ℕ) (end : ℕ) (o : Owed) (w v : Walk) : Type 0 where
  pub same : (v.bytes.now ≡ w.bytes.now) × (v.codes_end ≡ w.codes_end)
  pub next : Owed
  pub of : Of end next v
  pub comes : (r : Result ℕ Flaw) → Comes ordered w.bytes.now end next v.at r → Comes ordered w.bytes.now end o w.at r

abbrev pub rank : Stands → ℕ → ℕ → ℕ
rank AtValue frames codes = codes
rank PastValue frames codes = 2 ^ 65 + frames

-- falls with each step: a byte that is passed counts for more than all else
abbrev pub weight : Walk → ℕ
weight w = 2 ^ 66 * (length w.bytes.now - w.at) + rank w.stands (length w.frames.items) (length w.bytes.now - w.code)

-- a step from w to v: the walk goes on, whatever it owed
pub record Moved (ordered : List ℕ → List ℕ) (w v : Walk) : Type 0 where
  pub goes : (end : ℕ) (o : Owed) → Of end o w → Went ordered end o w v
  pub falls : weight v < weight w

-- this is the flaw in whatever it owed
abbrev pub Fails : (List ℕ → List ℕ) → Walk → Flaw → Type 0
Fails ordered w f = (end : ℕ) (o : Owed) → Of end o w → Comes ordered w.bytes.now end o w.at (Err f)

-- a step that may fail
abbrev pub Stepped : (List ℕ → List ℕ) → Walk → Walk → Result (Unit {0}) Flaw → Type 0
Stepped ordered w v r = MatchResult r (λ _. Moved ordered w v) (Fails ordered w)
