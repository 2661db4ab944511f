use Rattle.std.proofs.Common.{◌∷◌, arith}
use Rattle.signature.specs.Phrases.{TypeAt}
use Rattle.signature.proofs.Fronts.{weaken, shorter, one_rest, leaf_there, begun, keyed, no_entry_there, array_there, array_of, struct_there, struct_of, no_head, dict_there, dict_of, type_there, type_of, value_there, entry_of, first_member, last_member, next_member, other_members}
use Rattle.signature.proofs.grammar.+complete_element_entry_members.Goals as goal

pub complete-returns-in_err-first : goal.complete-returns-in_err-first
complete-returns-in_err-first t c =
    rw c.from_residual.ensures (λ left h. omega (arith, shorter c.args.s.now left c.args.arrays c.args.structs h, c.in_err-first.ensures.cases))

pub complete-returns-in_err-ok : goal.complete-returns-in_err-ok
complete-returns-in_err-ok t c =
    let f = c.in_ok-first in
    rw c.from_residual-in_err-ok.ensures (no_head c.args.s.now f.rest.now f.first.now c.args.arrays c.args.structs c.try_from.result f.ensures.cases.0 c.in_err-ok.ensures.value c.try_from.ensures)

pub complete-returns-in-Basic : goal.complete-returns-in-Basic
complete-returns-in-Basic t c =
    let f = c.in_ok-first in
    let front = begun c.args.s.now f.rest.now f.first.now c.try_from.result c.in_ok-ok.field-0 f.ensures.cases.0 c.in_ok-ok.ensures.value c.try_from.ensures in
    leaf_there front c.args.arrays c.args.structs c.in-Basic.is

pub complete-returns-in-Entry : goal.complete-returns-in-Entry
complete-returns-in-Entry t c left h =
    let f = c.in_ok-first in
    let front = begun c.args.s.now f.rest.now f.first.now c.try_from.result c.in_ok-ok.field-0 f.ensures.cases.0 c.in_ok-ok.ensures.value c.try_from.ensures in
    no_entry_there front c.args.arrays c.args.structs c.in-Entry.is left h

pub element-returns-in-None : goal.element-returns-in-None
element-returns-in-None t c =
    weaken c.complete.result
    (λ none left h. none left (type_there c.args.s.now c.args.arrays c.args.structs left c.in-None.ensures h))
    (λ x h. type_of c.args.s.now c.args.arrays c.args.structs x.now h)
    c.complete.ensures

pub entry-returns-in_err-complete : goal.entry-returns-in_err-complete
entry-returns-in_err-complete t c =
    let f = c.in_ok-key in
    rw c.from_residual-in_err-complete.ensures (λ left h. c.in_err-complete.ensures (125 ∷ left) (value_there c.args.s.now c.args.arrays c.args.structs f.key.now f.value.now left f.ensures.cases.0 h).1)

pub entry-returns : goal.entry-returns
entry-returns t c =
    let f = c.in_ok-key in
    let s = c.args.s.now in
    let a = c.args.arrays in
    let d = c.args.structs in
    let r = c.in_ok-complete.field-0.now in
    let there : TypeAt f.value.now a d r = c.in_ok-complete.ensures in
    weaken c.after.result
    (λ none left h. none left (one_rest f.value.now r (125 ∷ left) a d there (value_there s a d f.key.now f.value.now left f.ensures.cases.0 h).1))
    (λ x h. entry_of s a d f.key.now f.value.now x.now c.in_ok-ok.field-0 f.ensures.cases.0 (keyed f.key.now c.try_from.result c.in_ok-ok.field-0 c.in_ok-ok.ensures.value c.try_from.ensures) (rw h at there))
    c.after.ensures

pub members-returns-in_err-rest : goal.members-returns-in_err-rest
members-returns-in_err-rest t c =
    rw c.from_residual.ensures (λ left h. c.in_err-rest.ensures _ (first_member c.args.s.now c.args.arrays c.args.structs left h))

pub members-members-requires : goal.members-members-requires
members-members-requires t c =
    let k = shorter c.args.s.now c.in_ok-rest.rest.now c.args.arrays c.args.structs c.in_ok-rest.ensures in
    (omega (arith, c.decreases), tt)

pub members-returns-in-Some : goal.members-returns-in-Some
members-returns-in-Some t c =
    last_member c.args.s.now c.args.arrays c.args.structs c.in-Some.left.now (rw c.in-Some.ensures at c.in_ok-rest.ensures)

pub members-returns-in-None : goal.members-returns-in-None
members-returns-in-None t c =
    let s = c.args.s.now in
    let a = c.args.arrays in
    let d = c.args.structs in
    let r = c.in_ok-rest.rest.now in
    weaken c.members.result
    (λ none left h. none left (other_members s a d r left c.in-None.ensures c.in_ok-rest.ensures h))
    (λ x h. next_member s a d r x.now c.in_ok-rest.ensures h)
    c.members.ensures

pub complete-returns-in_err-checked_sub-in-Array : goal.complete-returns-in_err-checked_sub-in-Array
complete-returns-in_err-checked_sub-in-Array t c =
    let f = c.in_ok-first in
    let front = begun c.args.s.now f.rest.now f.first.now c.try_from.result c.in_ok-ok.field-0 f.ensures.cases.0 c.in_ok-ok.ensures.value c.try_from.ensures in
    let shut = c.in_err-checked_sub-in-Array.ensures in
    rw c.from_residual-in_err-checked_sub-in-Array.ensures (λ left h. omega (arith, (array_there front c.args.arrays c.args.structs c.in-Array.is left h 0 (omega arith)).0))

pub complete-returns-in_err-checked_sub-in-Struct : goal.complete-returns-in_err-checked_sub-in-Struct
complete-returns-in_err-checked_sub-in-Struct t c =
    let f = c.in_ok-first in
    let front = begun c.args.s.now f.rest.now f.first.now c.try_from.result c.in_ok-ok.field-0 f.ensures.cases.0 c.in_ok-ok.ensures.value c.try_from.ensures in
    let shut = c.in_err-checked_sub-in-Struct.ensures in
    rw c.from_residual-in_err-checked_sub-in-Struct.ensures (λ left h. omega (arith, (struct_there front c.args.arrays c.args.structs c.in-Struct.is left h 0 (omega arith)).0))

pub complete-returns-in_ok-checked_sub-in-Array : goal.complete-returns-in_ok-checked_sub-in-Array
complete-returns-in_ok-checked_sub-in-Array t c =
    let f = c.in_ok-first in
    let front = begun c.args.s.now f.rest.now f.first.now c.try_from.result c.in_ok-ok.field-0 f.ensures.cases.0 c.in_ok-ok.ensures.value c.try_from.ensures in
    let m = c.in_ok-checked_sub-in-Array.field-0 in
    let room = c.in_ok-checked_sub-in-Array.ensures in
    weaken c.element.result
    (λ none left h. none left (array_there front c.args.arrays c.args.structs c.in-Array.is left h m (omega arith)).1)
    (λ x h. array_of front c.args.arrays c.args.structs c.in-Array.is x.now m (omega arith) h)
    c.element.ensures

pub complete-returns-in_ok-checked_sub-in-Struct : goal.complete-returns-in_ok-checked_sub-in-Struct
complete-returns-in_ok-checked_sub-in-Struct t c =
    let f = c.in_ok-first in
    let front = begun c.args.s.now f.rest.now f.first.now c.try_from.result c.in_ok-ok.field-0 f.ensures.cases.0 c.in_ok-ok.ensures.value c.try_from.ensures in
    let m = c.in_ok-checked_sub-in-Struct.field-0 in
    let room = c.in_ok-checked_sub-in-Struct.ensures in
    weaken c.members.result
    (λ none left h. none left (struct_there front c.args.arrays c.args.structs c.in-Struct.is left h m (omega arith)).1)
    (λ x h. struct_of front c.args.arrays c.args.structs c.in-Struct.is x.now m (omega arith) h)
    c.members.ensures

pub element-returns-in_err-checked_sub-in-Some : goal.element-returns-in_err-checked_sub-in-Some
element-returns-in_err-checked_sub-in-Some t c =
    let shut = c.in_err-checked_sub-in-Some.ensures in
    rw c.from_residual.ensures (λ left h. omega (arith, (dict_there c.args.s.now c.args.arrays c.args.structs c.in-Some.inner.now left c.in-Some.ensures h 0 (omega arith)).0))

pub element-returns-in_ok-checked_sub-in-Some : goal.element-returns-in_ok-checked_sub-in-Some
element-returns-in_ok-checked_sub-in-Some t c =
    let m = c.in_ok-checked_sub-in-Some.field-0 in
    let room = c.in_ok-checked_sub-in-Some.ensures in
    weaken c.entry.result
    (λ none left h. none left (dict_there c.args.s.now c.args.arrays c.args.structs c.in-Some.inner.now left c.in-Some.ensures h m (omega arith)).1)
    (λ x h. dict_of c.args.s.now c.args.arrays c.args.structs c.in-Some.inner.now x.now c.in-Some.ensures m (omega arith) h)
    c.entry.ensures
