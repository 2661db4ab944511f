-- A line that is refused leaves the handshake as it was.
use Rattle.std.proofs.Common.{◌≡◌, ℕ, Bool, true, false, cond, List, set, Some, None, Ok, Err, Option, Result, ltb, sym, refl, ap, ◌∙◌}
use Rattle.std.specs.Str.{bytes_eq}
use Rattle.std.proofs.lemmas.List.{set-get_or}
use Rattle.handshake.specs.declared.machine.Handshake.{Handshake}
use Rattle.handshake.specs.declared.machine.State.{State}
use Rattle.handshake.specs.declared.machine.State.TheVariants.{WaitingForAuth, WaitingForBegin, Begun}
use Rattle.handshake.specs.declared.machine.Refusal.{Refusal}
use Rattle.handshake.specs.declared.machine.Refusal.TheVariants.{ShortBuffer, AlreadyBegun, EarlyBegin}
use Rattle.handshake.specs.declared.reply.Reply.{Reply}
use Rattle.handshake.specs.declared.reply.Reply.TheVariants as reply
use Rattle.handshake.specs.Texts.{credential}
use Rattle.handshake.specs.Lines.{Command, external, other_auth, error, begin, cancel, unknown, read}
use Rattle.handshake.specs.Machine.{says, refuses, turn, worded, machine, heard, moved}
use Rattle.lives.specs.Calls.{Table, life, told, hears, lined}

turn_stays : (s : State) (uid : ℕ) (c : Command) (e : Refusal) → (turn s uid c).answer ≡ Err e → (turn s uid c).next ≡ s
turn_stays WaitingForAuth uid (external text) e a = judged (bytes_eq text (credential uid)) a
  where
    judged : (b : Bool) → (cond b (says reply.Okay WaitingForBegin) (says reply.Rejected WaitingForAuth)).answer ≡ Err e → (cond b (says reply.Okay WaitingForBegin) (says reply.Rejected WaitingForAuth)).next ≡ WaitingForAuth
    judged true a = cc
    judged false a = refl
turn_stays WaitingForAuth uid other_auth e a = refl
turn_stays WaitingForAuth uid error e a = refl
turn_stays WaitingForAuth uid begin e a = refl
turn_stays WaitingForAuth uid cancel e a = refl
turn_stays WaitingForAuth uid unknown e a = refl
turn_stays WaitingForBegin uid (external text) e a = refl
turn_stays WaitingForBegin uid other_auth e a = refl
turn_stays WaitingForBegin uid error e a = cc
turn_stays WaitingForBegin uid begin e a = cc
turn_stays WaitingForBegin uid cancel e a = cc
turn_stays WaitingForBegin uid unknown e a = refl
turn_stays Begun uid c e a = refl

unworded : (id : List ℕ) (a : Result Reply Refusal) (e : Refusal) → worded id a ≡ Err e → a ≡ Err e
unworded id (Ok r) e w = cc
unworded id (Err f) e w = cc

pub refused_stays : (s : State) (uid : ℕ) (id line : List ℕ) (room : ℕ) (e : Refusal) → (heard s uid id line room).answer ≡ Err e → (heard s uid id line room).next ≡ s
refused_stays s uid id line room e = by_room (ltb room 37)
  where
    by_room : (b : Bool) → (cond b (refuses ShortBuffer s) (machine s uid id line)).answer ≡ Err e → (cond b (refuses ShortBuffer s) (machine s uid id line)).next ≡ s
    by_room true a = refl
    by_room false a = turn_stays s uid (read line) e (unworded id (turn s uid (read line)).answer e a)

told_refused : (t : Table) (c : ℕ) (h : Handshake) (s : State) (e : Refusal) → (e ≡ EarlyBegin → ⊥) → (told t c h s (Err e)).lives ≡ t
told_refused t c h s ShortBuffer n = refl
told_refused t c h s AlreadyBegun n = refl
told_refused t c h s EarlyBegin n = absurd (n refl)

-- what a line that was refused leaves where the life h was
module _ (t : Table) (id line : List ℕ) (c room : ℕ) (h : Handshake) (e : Refusal) (is : life t c ≡ Some h) (refused : (heard h.state h.uid id line room).answer ≡ Err e) where
  abbrev left : Table
  left = (lined t id c line room).lives

  left_is : (told t c h (heard h.state h.uid id line room).next (Err e)).lives ≡ left
  left_is =
      ap (λ (a : Result (List ℕ) Refusal). (told t c h (heard h.state h.uid id line room).next a).lives) (sym refused)
      ∙ ap (λ (o : Option Handshake). (hears o t id c line room).lives) (sym is)

  pub closed_early : e ≡ EarlyBegin → set t c None ≡ left
  closed_early early =
      ap (λ (f : Refusal). (told t c h (heard h.state h.uid id line room).next (Err f)).lives) (sym early)
      ∙ left_is

  pub stored_again : (k : Handshake) → k ≡ moved h (heard h.state h.uid id line room).next → (e ≡ EarlyBegin → ⊥) → set t c (Some k) ≡ left
  stored_again k after late =
      let same : k ≡ h = after ∙ ap (moved h) (refused_stays h.state h.uid id line room e refused) in
      ap (λ (o : Option Handshake). set t c o) (ap Some same ∙ sym is)
      ∙ set-get_or t c None
      ∙ sym (told_refused t c h (heard h.state h.uid id line room).next e late)
      ∙ left_is
