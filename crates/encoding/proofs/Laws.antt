-- Bytes are read as values exactly if they are the encoding of some.
use Rattle.std.proofs.Common.{arith}
use Rattle.std.proofs.lemmas.List.{length-take}
use Rattle.encoding.specs.Encodings.{Law}
use Rattle.encoding.proofs.Accepts.{values_of}
use Rattle.encoding.proofs.Recovers.{values_many}

pub law : Law
law ordered laws bytes all short around end ts p q before inside = (
  λ v.
      let many = values_many ordered laws bytes all v (omega (arith, length-take end bytes)) in
      record { values = many.0; shallow = many.1; lies = many.2; within = many.3 },
  λ e. values_of ordered laws bytes short e.values around end p q e.shallow e.within e.lies,
)
