use Rattle.std.proofs.Common.{◌≡◌, ℕ, ◌+◌, List, take, Ok, Err, Option, Result, sym, refl, ◌∙◌, subst, inl, inr}
use Rattle.std.specs.Result.{result_ok}
use Rattle.std.proofs.lemmas.Result.{err_from_is_err_and}
use Rattle.signature.specs.declared.codes.Alignment.TheVariants.{Eight}
use Rattle.items.specs.declared.fault.Flaw.{Flaw}
use Rattle.items.specs.Faults.{Then}
use Rattle.items.specs.Items.{Pad}
use Rattle.fields.specs.declared.Fields.{Fields}
use Rattle.fields.specs.declared.known.Field.{Field}
use Rattle.fields.specs.declared.known.UnknownField.{UnknownField}
use Rattle.fields.specs.Known.{known, Codes}
use Rattle.fields.specs.Headers.{Coded, Kinded, Valued, OneField}
use Rattle.fields.proofs.read.Reader.field.Goals as goal

-- one field, read from the area
one_field : (ordered : List ℕ → List ℕ) (bytes : List ℕ) (end : ℕ) (s : Fields) (r : Result Fields Flaw) (area : List ℕ) → area ≡ take end bytes
    → Then (Pad area Eight s.at) (λ p. Then (Coded area s p) (λ c. Then (Kinded area (known c) (p + 1)) (Valued ordered bytes end s (known c) (p + 1)))) r → OneField ordered bytes end s r
one_field ordered bytes end s r area e h =
    subst (λ (xs : List ℕ). Then (Pad xs Eight s.at) (λ p. Then (Coded xs s p) (λ c. Then (Kinded xs (known c) (p + 1)) (Valued ordered bytes end s (known c) (p + 1)))) r) e h

known_ok : (c : ℕ) (r : Result Field UnknownField) → Codes c r → result_ok r ≡ known c
known_ok c (Ok f) h = sym h
known_ok c (Err e) h = sym h

pub returns-in_err-start : goal.returns-in_err-start
returns-in_err-start g c =
    let p = err_from_is_err_and c.from_residual.result c.from_residual.ensures.1 in
    rw (p.1, p.2)
    (one_field g.O.ByteOrder.ordered c.args.self.bytes.now c.args.self.end c.args.fields _ _ c.area-area.ensures (inr (c.in_err-start.field-0.0, c.in_err-start.ensures, refl)))

pub returns-in_err-code : goal.returns-in_err-code
returns-in_err-code g c =
    let p = err_from_is_err_and c.from_residual-in_err-code.result c.from_residual-in_err-code.ensures.1 in
    rw (p.1, p.2)
    (one_field g.O.ByteOrder.ordered c.args.self.bytes.now c.args.self.end c.args.fields _ _ c.area-area.ensures
    (inl (c.in_ok-start.start, c.in_ok-start.ensures, inr (c.in_err-code.field-0.0, c.in_err-code.ensures, refl))))

pub returns-in_err-at : goal.returns-in_err-at
returns-in_err-at g c =
    let p = err_from_is_err_and c.from_residual-in_err-at.result c.from_residual-in_err-at.ensures.1 in
    let f = c.in_err-at.field-0.0 in
    let k = c.in_ok-code.code in
    let known = c.ok-field.ensures.value ∙ known_ok k c.try_from.result c.try_from.ensures in
    let kinded = subst (λ (o : Option Field). Kinded c.area-area.result.now o (c.in_ok-start.start + 1) (Err f)) known c.in_err-at.ensures in
    rw (p.1, p.2)
    (one_field g.O.ByteOrder.ordered c.args.self.bytes.now c.args.self.end c.args.fields _ _ c.area-area.ensures
    (inl (c.in_ok-start.start, c.in_ok-start.ensures, inl (k, c.in_ok-code.ensures, inr (f, kinded, refl)))))

pub returns : goal.returns
returns g c =
    let k = c.in_ok-code.code in
    let q = c.in_ok-at.at in
    let s = c.in_ok-start.start in
    let known = c.ok-field.ensures.value ∙ known_ok k c.try_from.result c.try_from.ensures in
    let kinded = subst (λ (o : Option Field). Kinded c.area-area.result.now o (s + 1) (Ok q)) known c.in_ok-at.ensures in
    let value = subst (λ (o : Option Field). Valued g.O.ByteOrder.ordered c.args.self.bytes.now c.args.self.end c.args.fields o (s + 1) q c.value.result) known c.value.ensures in
    one_field g.O.ByteOrder.ordered c.args.self.bytes.now c.args.self.end c.args.fields _ _ c.area-area.ensures
    (inl (s, c.in_ok-start.ensures, inl (k, c.in_ok-code.ensures, inl (q, kinded, value))))
