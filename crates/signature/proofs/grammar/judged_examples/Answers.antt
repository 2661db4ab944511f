use Rattle.std.proofs.Common.{◌≡◌, Bool, true, false, refl}
use Rattle.signature.proofs.Samples.{samples}
use Rattle.signature.proofs.grammar.judged_examples.Goals as goal

is_not : (b : Bool) {P : Type 0} → (b ≡ true → P) → (P → ⊥) → b ≡ false
is_not true f n = absurd (n (f refl))
is_not false f n = refl

pub returns : goal.returns
returns c =
    let a = c.is_signature.ensures.value.1 samples.dictionary in
    let b = is_not c.is_signature-2.result c.is_signature-2.ensures.value.0 samples.key_not_basic in
    let d = is_not c.is_signature-3.result c.is_signature-3.ensures.value.0 samples.empty_struct in
    let e = is_not c.is_signature-4.result c.is_signature-4.ensures.value.0 samples.array_of_nothing in
    let f = c.is_signature-5.ensures.value.1 samples.deepest in
    let g = is_not c.is_signature-6.result c.is_signature-6.ensures.value.0 samples.too_deep in
    (cc, samples)
