use Rattle.std.proofs.Common.{◌≡◌, ℕ, ◌+◌, ◌*◌, ◌<◌, List, [], ◌∷◌, ◌++◌, length, get_or, take, codes, sym, ap, ◌∙◌, ap₂, append_assoc, arith, rules}
use Rattle.std.proofs.lemmas.List.{take_more, length-take-le}
use Rattle.hex_digits.specs.Hex.{pairs}
use Rattle.hex_digits.proofs.Pairs.{length_pairs, pairs_append}
use Rattle.handshake.proofs.reply.Reply.text.Goals as goal

module _ (bytes : List ℕ) (i : ℕ) (h : i < length bytes) where
  so_far : length (pairs (take i bytes)) ≡ 2 * i
  so_far = length_pairs (take i bytes) ∙ ap (λ (n : ℕ). 2 * n) (length-take-le i bytes (omega arith))

  one_more : (front text two : List ℕ) → text ≡ front ++ pairs (take i bytes) → two ≡ pairs (get_or bytes i 0 ∷ []) → text ++ two ≡ front ++ pairs (take (i + 1) bytes)
  one_more front text two e f =
      ap₂ (λ (xs ys : List ℕ). xs ++ ys) e f
      ∙ append_assoc front (pairs (take i bytes)) (pairs (get_or bytes i 0 ∷ []))
      ∙ ap (λ (xs : List ℕ). front ++ xs) (sym (ap pairs (take_more bytes i 0 h) ∙ pairs_append (take i bytes) (get_or bytes i 0 ∷ [])))

pub unwrap-requires-in-loop-byte : goal.unwrap-requires-in-loop-byte
unwrap-requires-in-loop-byte c =
    let long = so_far c.args.id.now c.loop-byte.byte-index (omega (arith, c.told-id)) in
    let text = ap length c.loop-byte.invariant in
    let two = ap length c.pair.ensures.digits in
    c.try_extend_from_slice-in-loop-byte.ensures.variant.1 (omega arith)

pub loop-byte-preserved : goal.loop-byte-preserved
loop-byte-preserved c =
    let appended : c.try_extend_from_slice-in-loop-byte.new.self.items ≡ c.loop-byte.text.items ++ c.pair.result = search rules in
    appended
    ∙ one_more c.args.id.now c.loop-byte.byte-index (omega (arith, c.told-id)) (codes "OK ") c.loop-byte.text.items c.pair.result
    c.loop-byte.invariant c.pair.ensures.digits
