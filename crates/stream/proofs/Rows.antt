-- From the words of a call to its row.
use Rattle.std.proofs.Common.{◌≡◌, ℕ, cond, eqb, List, ◌∷◌, get_or, Ok, Err, vec_items, Result, sym, refl, ap, ◌∙◌, subst, arith}
use Rattle.stream.specs.Calls.{verb_of, arguments, Within, Arguments, Reads}
use Rattle.stream.specs.Spelling.{spaced}
use Rattle.stream.specs.Text.{cut}
use Rattle.stream.specs.Verbs.{name, Shape}
use Rattle.stream.specs.declared.call.Call.{Call}
use Rattle.stream.specs.declared.call.Call.TheVariants.{Bus, Open, Line, Message, Tick, Take, Close}
use Rattle.stream.specs.declared.verb.Verb.{Verb}
use Rattle.stream.specs.declared.verb.Verb.TheVariants as verb
use Rattle.stream.specs.declared.fault.Fault.{Fault}
use Rattle.stream.proofs.Cuts.{same_first, Solid, cut_spaced, spaced_cut, without_clear}
use Rattle.stream.proofs.Pairs.{without_hex}
use Rattle.stream.proofs.Numbers.{without_space}

-- a verb is known by its name
abbrev back : List ℕ → Verb
back w =
    cond (eqb (get_or w 0 0) 98) verb.Bus
    (cond (eqb (get_or w 0 0) 111) verb.Open
    (cond (eqb (get_or w 0 0) 108) verb.Line
    (cond (eqb (get_or w 0 0) 109) verb.Message
    (cond (eqb (get_or w 0 0) 99) verb.Close
    (cond (eqb (get_or w 1 0) 105) verb.Tick verb.Take)))))

back_name : (v : Verb) → back (name v) ≡ v
back_name verb.Bus = refl
back_name verb.Open = refl
back_name verb.Line = refl
back_name verb.Message = refl
back_name verb.Tick = refl
back_name verb.Take = refl
back_name verb.Close = refl

pub same_verb : (u v : Verb) → name u ≡ name v → u ≡ v
same_verb u v e = sym (back_name u) ∙ ap back e ∙ back_name v

shape : (call : Call) → Within call → Shape (verb_of call) (arguments call)
shape (Bus limit id) h = (limit, id, h.0, h.1, h.2, refl)
shape (Open c uid) h = (c, uid, h.0, h.1, refl)
shape (Line c bytes size) h = (c, vec_items bytes, size, h.0, h.1, h.2, refl)
shape (Message c bytes) h = (c, vec_items bytes, h.0, h.1, refl)
shape (Tick time) h = (time, h, refl)
shape (Take c size) h = (c, size, h.0, h.1, refl)
shape (Close c) h = (c, h, refl)

solid : (call : Call) → Within call → Solid (name (verb_of call) ∷ arguments call)
solid (Bus limit id) h = (without_clear (name verb.Bus) refl, (without_space limit (omega arith), (without_hex id h.2, tt)))
solid (Open c uid) h = (without_clear (name verb.Open) refl, (without_space c (omega arith), (without_space uid (omega arith), tt)))
solid (Line c bytes size) h = (without_clear (name verb.Line) refl, (without_space c (omega arith), (without_hex (vec_items bytes) h.1, (without_space size (omega arith), tt))))
solid (Message c bytes) h = (without_clear (name verb.Message) refl, (without_space c (omega arith), (without_hex (vec_items bytes) h.1, tt)))
solid (Tick time) h = (without_clear (name verb.Tick) refl, (without_space time h, tt))
solid (Take c size) h = (without_clear (name verb.Take) refl, (without_space c (omega arith), (without_space size (omega arith), tt)))
solid (Close c) h = (without_clear (name verb.Close) refl, (without_space c (omega arith), tt))

-- a row is read as its words are
pub by_words : (row : List ℕ) (v : Verb) (ws : List (List ℕ)) (r : Result Call Fault) → cut row ≡ name v ∷ ws → Arguments v ws r → Reads row r
by_words row v ws (Ok call) e h =
    (sym (spaced_cut row) ∙ ap spaced (e ∙ ap (λ (u : Verb). name u ∷ ws) (sym h.0) ∙ ap (λ (t : List (List ℕ)). name (verb_of call) ∷ t) h.1), h.2)
by_words row v ws (Err x) e h = (
  λ o. (v, h.0 o, same_first row e),
  λ ne call within s.
      let f : name v ∷ ws ≡ name (verb_of call) ∷ arguments call = sym e ∙ ap cut s ∙ cut_spaced (name (verb_of call)) (arguments call) (solid call within) in
      let g : name v ≡ name (verb_of call) = cc in
      let a : arguments call ≡ ws = cc in
      h.1 ne (subst (λ (u : Verb). Shape u ws) (same_verb (verb_of call) v (sym g)) (subst (Shape (verb_of call)) a (shape call within))),
)
