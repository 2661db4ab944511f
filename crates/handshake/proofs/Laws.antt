-- A program has begun exactly if it has shown who it is.
use Rattle.std.proofs.Common.{◌≡◌, ℕ, ◌≤◌, ltb, ◌⊎◌, List, [], ◌∷◌, ◌++◌, length, get_or, Ok, Err, codes, Result, sym, refl, ap, ◌∙◌, subst, inl, inr, arith}
use Rattle.std.specs.List.{AllByRecursion}
use Rattle.std.specs.Str.{bytes_eq}
use Rattle.std.proofs.lemmas.Slice.Eq.{bytes_eq-Decides}
use Rattle.std.proofs.lemmas.List.{take_at}
use Rattle.std.proofs.lemmas.Bool.{cond-false, ltb-false, le-ltb}
use Rattle.handshake.specs.declared.machine.Handshake.{Handshake}
use Rattle.handshake.specs.declared.machine.State.{State}
use Rattle.handshake.specs.declared.machine.State.TheVariants.{WaitingForAuth, WaitingForBegin, Begun}
use Rattle.handshake.specs.declared.machine.Refusal.{Refusal}
use Rattle.handshake.specs.declared.machine.Refusal.TheVariants.{ShortBuffer}
use Rattle.handshake.specs.declared.reply.Reply.{Reply}
use Rattle.handshake.specs.declared.reply.Reply.TheVariants as reply
use Rattle.handshake.specs.Lines.{Command, external, other_auth, error, begin, cancel, unknown, read}
use Rattle.handshake.specs.Texts.{credential, wording}
use Rattle.handshake.specs.Machine.{Turn, refuses, turn, worded, machine, heard, counted, filled, moved}
use Rattle.handshake.specs.Law.{Exchange, said, exchanged, Leads, Conversation, Rejected, Authenticated, Law}
use Rattle.handshake.proofs.Reading.{either, read_external, read_begin}

module _ (id : List ℕ) (uid : ℕ) where
  -- A begin that no rejection comes before.
  record Begins (xs : List Exchange) : Type 0 where
    between : List Exchange
    begin : Exchange
    after : List Exchange
    order : xs ≡ between ++ (begin ∷ after)
    begins : begin.line ≡ codes "BEGIN"
    roomy : 37 ≤ begin.room
    kept : AllByRecursion (λ x. Rejected id x → ⊥) between

  -- what a conversation that ends begun shows, by the state in which it starts
  abbrev Shown : State → List Exchange → Type 0
  Shown WaitingForAuth xs = Authenticated id uid xs
  Shown WaitingForBegin xs = Begins xs ⊎ Authenticated id uid xs
  Shown Begun xs = Unit {0}

  later : (x : Exchange) (xs : List Exchange) → Authenticated id uid xs → Authenticated id uid (x ∷ xs)
  later x xs a = record {
    before = x ∷ a.before;
    auth = a.auth;
    between = a.between;
    begin = a.begin;
    after = a.after;
    order = ap (λ (ys : List Exchange). x ∷ ys) a.order;
    shows = a.shows;
    passes = a.passes;
    begins = a.begins;
    roomy = a.roomy;
    kept = a.kept;
  }

  module _ (x : Exchange) (xs : List Exchange) where
    pass : (text : List ℕ) → x.line ≡ codes "AUTH EXTERNAL " ++ text → text ≡ credential uid → x.answer ≡ Ok (wording id reply.Okay) → Shown WaitingForBegin xs → Authenticated id uid (x ∷ xs)
    pass text l e a (inl b) = record {
      before = [];
      auth = x;
      between = b.between;
      begin = b.begin;
      after = b.after;
      order = ap (λ (ys : List Exchange). x ∷ ys) b.order;
      shows = l ∙ ap (λ (t : List ℕ). codes "AUTH EXTERNAL " ++ t) e;
      passes = a;
      begins = b.begins;
      roomy = b.roomy;
      kept = b.kept;
    }
    pass text l e a (inr b) = later x xs b

    -- a line that is not rejected keeps the begin
    keep : (Rejected id x → ⊥) → Shown WaitingForBegin xs → Shown WaitingForBegin (x ∷ xs)
    keep n (inl b) = inl (record {
      between = x ∷ b.between;
      begin = b.begin;
      after = b.after;
      order = ap (λ (ys : List Exchange). x ∷ ys) b.order;
      begins = b.begins;
      roomy = b.roomy;
      kept = (n, b.kept);
    })
    keep n (inr b) = inr (later x xs b)

    first : x.line ≡ codes "BEGIN" → 37 ≤ x.room → Begins (x ∷ xs)
    first l r = record { between = []; begin = x; after = xs; order = refl; begins = l; roomy = r; kept = tt }

    -- what the rest shows in the state that an exchange leads to, it shows with the exchange
    abbrev Carries : State → Turn (List ℕ) → Type 0
    Carries s t = x.answer ≡ t.answer → Shown t.next xs → Shown s (x ∷ xs)

    abbrev CarriesReply : State → Turn Reply → Type 0
    CarriesReply s t = x.answer ≡ worded id t.answer → Shown t.next xs → Shown s (x ∷ xs)

    one : (s : State) (c : Command) → read x.line ≡ c → 37 ≤ x.room → x.answer ≡ worded id (turn s uid c).answer → Shown (turn s uid c).next xs → Shown s (x ∷ xs)
    one WaitingForAuth (external text) r m a s =
        either (CarriesReply WaitingForAuth) (bytes_eq text (credential uid)) _ _
        (λ e. pass text (read_external x.line text r) ((bytes_eq-Decides text (credential uid)).0 e))
        (λ _ _. later x xs) a s
    one WaitingForAuth other_auth r m a s = later x xs s
    one WaitingForAuth error r m a s = later x xs s
    one WaitingForAuth begin r m a s = later x xs s
    one WaitingForAuth cancel r m a s = later x xs s
    one WaitingForAuth unknown r m a s = later x xs s
    one WaitingForBegin (external text) r m a s = keep (λ r. cc) s
    one WaitingForBegin other_auth r m a s = keep (λ r. cc) s
    one WaitingForBegin error r m a s = inr (later x xs s)
    one WaitingForBegin begin r m a s = inl (first (read_begin x.line r) m)
    one WaitingForBegin cancel r m a s = inr (later x xs s)
    one WaitingForBegin unknown r m a s = keep (λ r. cc) s
    one Begun c r m a s = tt

    -- a line that is refused for want of room changes nothing
    short : (s : State) → x.answer ≡ Err ShortBuffer → Shown s xs → Shown s (x ∷ xs)
    short WaitingForAuth a s = later x xs s
    short WaitingForBegin a s = keep (λ r. cc) s
    short Begun a s = tt

    by_room : (s : State) → Carries s (heard s uid id x.line x.room)
    by_room s = either (Carries s) (ltb x.room 37) _ _ (λ _. short s) (λ e. one s (read x.line) refl (ltb-false x.room 37 e))

  forward : (xs : List Exchange) (s : State) → Leads id uid s xs Begun → Shown s xs
  forward [] WaitingForAuth e = cc
  forward [] WaitingForBegin e = cc
  forward [] Begun e = tt
  forward (x ∷ xs) s (a, l) = by_room x xs s a (forward xs (heard s uid id x.line x.room).next l)

  cut : (xs ys : List Exchange) (s t : State) → Leads id uid s (xs ++ ys) t → (m : State) × Leads id uid s xs m × Leads id uid m ys t
  cut [] ys s t l = (s, refl, l)
  cut (x ∷ xs) ys s t (a, l) = let p = cut xs ys (heard s uid id x.line x.room).next t l in (p.0, (a, p.1), p.2)

  -- past AUTH: waiting for BEGIN, or begun
  abbrev Past : State → Type 0
  Past WaitingForAuth = ⊥
  Past WaitingForBegin = Unit {0}
  Past Begun = Unit {0}

  -- the first byte of an answer; 0 for none and for a refusal
  abbrev mark : Result (List ℕ) Refusal → ℕ
  mark (Ok text) = get_or text 0 0
  mark (Err e) = 0

  abbrev Okayed : Result (List ℕ) Refusal → Type 0
  Okayed a = a ≡ Ok (wording id reply.Okay)

  -- only OK says OK
  passing : (s : State) (c : Command) → Okayed (worded id (turn s uid c).answer) → Past (turn s uid c).next
  passing WaitingForAuth (external text) e = either (λ (t : Turn Reply). Okayed (worded id t.answer) → Past t.next) (bytes_eq text (credential uid)) _ _ (λ _ _. tt) (λ _ e. absurd (omega (arith, ap mark e))) e
  passing WaitingForAuth other_auth e = absurd (omega (arith, ap mark e))
  passing WaitingForAuth error e = absurd (omega (arith, ap mark e))
  passing WaitingForAuth begin e = absurd (omega (arith, ap mark e))
  passing WaitingForAuth cancel e = absurd (omega (arith, ap mark e))
  passing WaitingForAuth unknown e = absurd (omega (arith, ap mark e))
  passing WaitingForBegin (external text) e = tt
  passing WaitingForBegin other_auth e = tt
  passing WaitingForBegin error e = absurd (omega (arith, ap mark e))
  passing WaitingForBegin begin e = tt
  passing WaitingForBegin cancel e = absurd (omega (arith, ap mark e))
  passing WaitingForBegin unknown e = tt
  passing Begun c e = tt

  staying : (s : State) (c : Command) → (worded id (turn s uid c).answer ≡ Ok (wording id reply.Rejected) → ⊥) → Past s → Past (turn s uid c).next
  staying WaitingForAuth c n p = absurd p
  staying WaitingForBegin (external text) n p = tt
  staying WaitingForBegin other_auth n p = tt
  staying WaitingForBegin error n p = absurd (n refl)
  staying WaitingForBegin begin n p = tt
  staying WaitingForBegin cancel n p = absurd (n refl)
  staying WaitingForBegin unknown n p = tt
  staying Begun c n p = tt

  passed : (x : Exchange) (s : State) → x.answer ≡ (heard s uid id x.line x.room).answer → x.answer ≡ Ok (wording id reply.Okay) → Past (heard s uid id x.line x.room).next
  passed x s a o =
      either (λ (t : Turn (List ℕ)). Okayed t.answer → Past t.next) (ltb x.room 37) _ _ (λ _ e. cc) (λ _ e. passing s (read x.line) e) (sym a ∙ o)

  stayed : (x : Exchange) (s : State) → x.answer ≡ (heard s uid id x.line x.room).answer → (Rejected id x → ⊥) → Past s → Past (heard s uid id x.line x.room).next
  stayed x s a n p =
      either (λ (t : Turn (List ℕ)). (t.answer ≡ Ok (wording id reply.Rejected) → ⊥) → Past t.next) (ltb x.room 37) _ _ (λ _ _. p) (λ _ m. staying s (read x.line) m p) (λ e. n (a ∙ e))

  through : (xs : List Exchange) (s t : State) → Leads id uid s xs t → AllByRecursion (λ x. Rejected id x → ⊥) xs → Past s → Past t
  through [] s t l n p = subst Past l p
  through (x ∷ xs) s t (a, l) (n, ns) p = through xs (heard s uid id x.line x.room).next t l ns (stayed x s a n p)

  begun_at : (s : State) → Past s → (turn s uid begin).next ≡ Begun
  begun_at WaitingForAuth p = absurd p
  begun_at WaitingForBegin p = refl
  begun_at Begun p = refl

  begun_by : (x : Exchange) (s : State) → x.line ≡ codes "BEGIN" → 37 ≤ x.room → Past s → (heard s uid id x.line x.room).next ≡ Begun
  begun_by x s l r p =
      ap (λ (t : Turn (List ℕ)). t.next) (cond-false _ (refuses ShortBuffer s) (machine s uid id x.line) (le-ltb x.room 37 r))
      ∙ ap (λ (line : List ℕ). (turn s uid (read line)).next) l
      ∙ begun_at s p

  begun_stays : (xs : List Exchange) (t : State) → Leads id uid Begun xs t → t ≡ Begun
  begun_stays [] t l = sym l
  begun_stays (x ∷ xs) t (a, l) =
      let still : (heard Begun uid id x.line x.room).next ≡ Begun = either (λ (t : Turn (List ℕ)). t.next ≡ Begun) (ltb x.room 37) _ _ (λ _. refl) (λ _. refl) in
      begun_stays xs t (subst (λ (s : State). Leads id uid s xs t) still l)

  backward : (xs : List Exchange) (t : State) → Conversation id uid xs t → Authenticated id uid xs → t ≡ Begun
  backward xs t l a =
      let whole : Leads id uid WaitingForAuth (a.before ++ (a.auth ∷ (a.between ++ (a.begin ∷ a.after)))) t =
      subst (λ (ys : List Exchange). Leads id uid WaitingForAuth ys t) a.order l
      in
      let p = cut a.before (a.auth ∷ (a.between ++ (a.begin ∷ a.after))) WaitingForAuth t whole in
      let q = cut a.between (a.begin ∷ a.after) (heard p.0 uid id a.auth.line a.auth.room).next t p.2.1 in
      let past = through a.between _ q.0 q.1 a.kept (passed a.auth p.0 p.2.0 a.passes) in
      begun_stays a.after t
      (subst (λ (s : State). Leads id uid s a.after t) (begun_by a.begin q.0 a.begins a.roomy past) q.2.1)

  pub law : (xs : List Exchange) (t : State) → Conversation id uid xs t → Law id uid xs t
  law xs t l =
      ((λ e. forward xs WaitingForAuth (subst (λ (s : State). Leads id uid WaitingForAuth xs s) e l)), backward xs t l)

  -- one exchange more
  pub grown : (xs : List Exchange) (s t : State) (x : Exchange) → Leads id uid s xs t → x.answer ≡ (heard t uid id x.line x.room).answer → Leads id uid s (xs ++ (x ∷ [])) (heard t uid id x.line x.room).next
  grown [] s t x l a =
      (a ∙ ap (λ (u : State). (heard u uid id x.line x.room).answer) (sym l), ap (λ (u : State). (heard u uid id x.line x.room).next) l)
  grown (y ∷ ys) s t x (b, l) a = (b, grown ys (heard s uid id y.line y.room).next t x l a)

-- what was counted and written is what was said
said_back : (a : Result (List ℕ) Refusal) (buffer : List ℕ) → said (counted a) (filled a buffer) ≡ a
said_back (Ok text) buffer = ap Ok (take_at text _ (length text) refl)
said_back (Err e) buffer = refl

-- a call of `line` is one exchange more
pub line_grows : (h k : Handshake) (id line out after : List ℕ) (r : Result ℕ Refusal) → r ≡ counted (heard h.state h.uid id line (length out)).answer → k ≡ moved h (heard h.state h.uid id line (length out)).next → after ≡ filled (heard h.state h.uid id line (length out)).answer out → (xs : List Exchange) → Conversation id h.uid xs h.state → Conversation id h.uid (xs ++ (exchanged line out r after ∷ [])) k.state
line_grows h k id line out after r e m f xs l =
    subst (Conversation id h.uid (xs ++ (exchanged line out r after ∷ []))) (sym (ap (λ (j : Handshake). j.state) m))
    (grown id h.uid xs WaitingForAuth h.state (exchanged line out r after) l (cc (said_back (heard h.state h.uid id line (length out)).answer out)))
