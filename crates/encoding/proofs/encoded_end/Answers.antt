use Rattle.std.proofs.Common.{ℕ, ◌^◌, ◌<◌, List, length, get_or, Ok, Err, MatchOption, Result, inl, inr, rules}
use Rattle.std.specs.List.{AllByRecursion}
use Rattle.std.specs.Result.{result_ok}
use Rattle.order.specs.Numbers.{Byte}
use Rattle.order.specs.Spreads.{all_from}
use Rattle.items.specs.declared.Span.{Span}
use Rattle.items.specs.declared.fault.Flaw.{Flaw}
use Rattle.items.proofs.Once.{never}
use Rattle.values.specs.Values.{Read}
use Rattle.values.proofs.Once.{values_one}
use Rattle.encoding.specs.Encodings.{IsByteOrder, EncodedAt}
use Rattle.encoding.proofs.Laws.{law}
use Rattle.encoding.proofs.encoded_end.Goals as goal

module _ (ordered : List ℕ → List ℕ) (laws : IsByteOrder ordered) (bytes : List ℕ) (all : AllByRecursion Byte bytes) (short : length bytes < 2 ^ 32) (codes : Span) (at end : ℕ) where
  -- what was read is the encoding of some values
  read_encoded : (q : ℕ) → Read ordered bytes codes at end (Ok q) → EncodedAt ordered bytes codes at end q
  read_encoded q (inl (l, inl (s, h))) = record {
    place = l.0;
    inside = l.1;
    spelled = s;
    types = s.signature.types;
    spells = s.signature.spells;
    encoded = (law ordered laws bytes all short 0 end s.signature.types at q l.0 l.1).0 (h s.signature.types s.signature.spells);
  }
  read_encoded q (inl (l, inr h)) = never q _ h.1
  read_encoded q (inr h) = never q _ h.1

  -- where there is a flaw, there is no such encoding
  flaw_none : (f : Flaw) → Read ordered bytes codes at end (Err f) → (q : ℕ) → EncodedAt ordered bytes codes at end q → ⊥
  flaw_none f (inl (l, inl (s, h))) q k =
      let good = (law ordered laws bytes all short 0 end k.types at q k.place k.inside).1 k.encoded in
      never q f (values_one ordered bytes good (Err f) (h k.types k.spells))
  flaw_none f (inl (l, inr h)) q k = h.0 k.spelled
  flaw_none f (inr h) q k = h.0 (k.place, k.inside)

  judged : (r : Result ℕ Flaw) → Read ordered bytes codes at end r → MatchOption (result_ok r) ((q : ℕ) → EncodedAt ordered bytes codes at end q → ⊥) (λ q. EncodedAt ordered bytes codes at end q)
  judged (Ok q) h = read_encoded q h
  judged (Err f) h = flaw_none f h

pub returns-clause-value : goal.returns-clause-value
returns-clause-value g c short =
    let met = g.met.O.ByteOrder in
    let b = c.args.bytes.now in
    let fit : (k : ℕ) → get_or b k 0 < 256 = search rules in
    let h = judged
    g.O.ByteOrder.ordered (record { twice = met.twice; size = met.size; bytes = met.bytes }) b (all_from Byte b fit) short c.args.codes c.args.at c.args.end
    c.values.result c.values.ensures.value in
    rw (← c.ok.ensures.value) at h

pub returns-clause-law : goal.returns-clause-law
returns-clause-law g c = law
