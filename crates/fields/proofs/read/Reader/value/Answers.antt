use Rattle.std.proofs.Common.{ℕ, ◌+◌, ◌≤◌, List, length, take, Ok, Err, sym, refl, subst, inl, inr}
use Rattle.std.proofs.lemmas.Result.{err_from_is_err_and}
use Rattle.items.specs.Items.{codes_at}
use Rattle.fields.specs.Headers.{Fitting}
use Rattle.fields.proofs.Parts.{kinded_tells, type_there, valued, value_word}
use Rattle.fields.proofs.read.Reader.value.Goals as goal

pub returns-in_err-end : goal.returns-in_err-end
returns-in_err-end g c =
    let o = g.O.ByteOrder.ordered in
    let self = c.args.self in
    let t = type_there o self.bytes.now self.end self.within c.args.field c.args.kind c.args.at c.requires in
    let f = c.in_err-end.field-0.0 in
    let v = valued o self.bytes.now self.end self.within c.args.field c.args.kind c.args.at c.requires (Err f) c.in_err-end.ensures.value in
    let p = err_from_is_err_and c.from_residual.result c.from_residual.ensures.1 in
    rw (p.1, p.2) (t.type, t.spells, inr (f, v, refl))

pub invariant_of-with : goal.invariant_of-with
invariant_of-with g c =
    let o = g.O.ByteOrder.ordered in
    let self = c.args.self in
    let area = take self.end self.bytes.now in
    let t = type_there o self.bytes.now self.end self.within c.args.field c.args.kind c.args.at c.requires in
    let v = valued o self.bytes.now self.end self.within c.args.field c.args.kind c.args.at c.requires (Ok c.in_ok-end.end) c.in_ok-end.ensures.value in
    let own = (kinded_tells area c.args.field c.args.kind c.args.at c.requires).1 in
    record {
      room = λ w.
          let k = value_word o self.bytes.now self.end c.args.field (codes_at area c.args.kind) t.type c.args.at c.in_ok-end.end t.spells own v w in
          subst (λ (xs : List ℕ). c.start.result + 4 ≤ length xs) (sym c.area.ensures) (subst (λ (n : ℕ). n + 4 ≤ length area) (sym c.start.ensures) k);
    }

pub returns : goal.returns
returns g c =
    let o = g.O.ByteOrder.ordered in
    let self = c.args.self in
    let t = type_there o self.bytes.now self.end self.within c.args.field c.args.kind c.args.at c.requires in
    let q = c.in_ok-end.end in
    let v = valued o self.bytes.now self.end self.within c.args.field c.args.kind c.args.at c.requires (Ok q) c.in_ok-end.ensures.value in
    let z = subst (λ (xs : List ℕ). Fitting o xs c.args.fields c.args.field c.start.result q c.with.result) c.area.ensures c.with.ensures in
    let y = subst (λ (n : ℕ). Fitting o (take self.end self.bytes.now) c.args.fields c.args.field n q c.with.result) c.start.ensures z in
    (t.type, t.spells, inl (q, v, y))
