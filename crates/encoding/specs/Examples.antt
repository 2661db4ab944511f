-- Examples of encodings, in little endian.
use Rattle.std.specs.Prelude.{◌≡◌, [], ◌∷◌, ◌++◌, replicate, codes}
use Rattle.order.specs.Numbers.{as_they_lie}
use Rattle.text.specs.Grammar.{Path}
use Rattle.signature.specs.declared.codes.Basic.TheVariants as basics
use Rattle.signature.specs.Trees.{basic, single, Single}
use Rattle.encoding.specs.Data.{Number, Written, plain, tuple, list, tagged, nil, cons, empty}
use Rattle.encoding.specs.Encodings.{encode, encode_all}

pub record Examples : Type 0 where
  -- `yu` at 80: the byte 7 and the number 1000
  pub numbers : (y : Number 1) (u : Number 4) → y.value ≡ 7 → u.value ≡ 1000
      → encode_all as_they_lie (cons (plain {b = basics.Byte} y) (cons (plain {b = basics.Uint32} u) nil)) 80 ≡ 7 ∷ 0 ∷ 0 ∷ 0 ∷ 232 ∷ 3 ∷ 0 ∷ 0 ∷ []
  -- an empty `at` at 0
  pub no_elements : encode as_they_lie (list {e = single (basic basics.Uint64)} empty) 0 ≡ replicate 8 0
  -- `(yv)` at 14: 1 and the path /melt
  pub field : (y : Number 1) (w : Written Path) (one : Single (codes "o")) → y.value ≡ 1 → w.bytes ≡ codes "/melt"
      → encode as_they_lie (tuple (cons (plain {b = basics.Byte} y) (cons (tagged {t = basic basics.Path} one (plain w)) nil))) 14
      ≡ 0 ∷ 0 ∷ 1 ∷ 1 ∷ 111 ∷ 0 ∷ 5 ∷ 0 ∷ 0 ∷ 0 ∷ (codes "/melt" ++ 0 ∷ [])
