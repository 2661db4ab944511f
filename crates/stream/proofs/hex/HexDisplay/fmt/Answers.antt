use Rattle.std.proofs.Common.{◌≡◌, ℕ, ◌+◌, List, ◌++◌, length, get_or, take, is_ok, sym, ap, ◌∙◌, arith}
use lib.Utf8.{encode}
use Rattle.std.proofs.Output.{has_written_append, has_written_of_eq}
use Rattle.std.proofs.lemmas.Str.Ascii.{encode_ascii}
use Rattle.std.proofs.lemmas.List.{take_all}
use Rattle.std.proofs.lemmas.Bool.{eqb-false}
use Rattle.hex_digits.specs.Hex.{pairs}
use Rattle.stream.proofs.Pairs.{pairs_take, hex_some}
use Rattle.stream.proofs.hex.HexDisplay.fmt.Goals as goal

pub loop-b-preserved : goal.loop-b-preserved
loop-b-preserved g c plain =
    let xs = c.args.self.now.0.now in
    let i = c.loop-b.b-index in
    let p = c.loop-b.invariant plain in
    let q = c.write_char.ensures.writes p.plain (ap is_ok c.in_ok-write_char.was) in
    let r = c.write_char-in-loop-b.ensures.writes q.plain (ap is_ok c.in_ok-write_char-2.was) in
    let high = c.from.ensures ∙ ap (λ (r : List ℕ). get_or r 0 0) c.pair.ensures.digits in
    let low = c.from-in-loop-b.ensures ∙ ap (λ (r : List ℕ). get_or r 1 0) c.pair.ensures.digits in
    let e : (pairs (take i xs) ++ encode c.from.result) ++ encode c.from-in-loop-b.result ≡ pairs (take (i + 1) xs) =
    rw (encode_ascii c.from.result (rw c.from.ensures c.pair.ensures.ascii.0), encode_ascii c.from-in-loop-b.result (rw c.from-in-loop-b.ensures c.pair.ensures.ascii.1))
    (pairs_take xs i c.from.result c.from-in-loop-b.result c.loop-b-test.true high low)
    in
    has_written_of_eq _ _ _ _ _ e (has_written_append _ _ _ _ _ _ (has_written_append _ _ _ _ _ _ p q) r)

pub returns-clause-writes : goal.returns-clause-writes
returns-clause-writes g c plain _ =
    let xs = c.args.self.now.0.now in
    let e = ap pairs (take_all c.loop-b.b-index xs (omega arith)) ∙ sym (hex_some xs (omega (arith, eqb-false (length xs) 0 (sym c.is_empty.ensures ∙ c.if-is_empty.false)))) in
    has_written_of_eq _ _ _ _ _ e (c.loop-b.invariant plain)
