-- For an implementation whose lists come from a function: what it owes, at c and elsewhere.
use Rattle.std.proofs.Common.{◌≡◌, ℕ, ◌<◌, ◌≤◌, true, false, cond, leb, List, [], ◌∷◌, ◌++◌, length, drop, set, Ok, Err, Result, sym, ap, subst, ◌∙◌, ⊎_elim, arith}
use Rattle.std.proofs.lemmas.List.FromFn.{length-map-range_with_len, get_or-map-range_with_len, fill_by_all}
use Rattle.std.proofs.lemmas.List.{get_or_past, get_or-set_same, get_or-set_other, length-set, set_past, set-get_or}
use Rattle.std.specs.List.{All}
use Rattle.std.proofs.lemmas.List.Elements.{All-get_or}
use Rattle.std.proofs.lemmas.Bool.{cases_eq, cases_lt, le-leb, lt-leb, lt-ltb, le-ltb, ne_eqb, cond-true, cond-false, or_from}
use Rattle.connection.specs.declared.Connection.{Connection}
use Rattle.mailbox.specs.declared.Refusal.{Refusal}
use Rattle.mailbox.specs.declared.Refusal.TheVariants.{NoMailbox, BadLength, Full, ShortBuffer}
use Rattle.mailbox.specs.declared.message.Message.{Message}
use Rattle.mailbox.specs.Lists.{Lists, Laws, IsSize, waiting, tabled, misfit, put_answer, added, put_after, take_answer, taken, take_after, take_buffer, clear_after}

-- a put on any sixteen lists
module _ (bound : ℕ) (ls : Lists) (c : ℕ) (m : List ℕ) where
  refused_so : (e : Refusal) → put_answer bound ls c m ≡ Err e → (Err e ≡ put_answer bound ls c m) × (ls ≡ put_after bound ls c m)
  refused_so e a = (sym a, sym (ap (λ (r : Result (Unit {0}) Refusal). added r ls c m) a))

  pub put_no_mailbox : 16 ≤ c → (Err NoMailbox ≡ put_answer bound ls c m) × (ls ≡ put_after bound ls c m)
  put_no_mailbox h = refused_so NoMailbox (cond-true _ _ _ (lt-ltb 15 c h))

  -- there is such a connection
  module _ (h : c < 16) where
    known : put_answer bound ls c m ≡ cond (misfit m) (Err BadLength) (cond (leb bound (length (waiting ls c))) (Err Full) (Ok tt))
    known = cond-false _ _ _ (le-ltb 15 c (omega arith))

    pub put_misfit : misfit m ≡ true → (Err BadLength ≡ put_answer bound ls c m) × (ls ≡ put_after bound ls c m)
    put_misfit bad = refused_so BadLength (known ∙ cond-true _ _ _ bad)

    -- and the message fits
    module _ (good : misfit m ≡ false) where
      pub put_filled : bound ≤ length (waiting ls c) → (Err Full ≡ put_answer bound ls c m) × (ls ≡ put_after bound ls c m)
      put_filled full = refused_so Full (known ∙ cond-false _ _ _ good ∙ cond-true _ _ _ (le-leb bound (length (waiting ls c)) full))

      pub put_accepted : length (waiting ls c) < bound → (Ok tt ≡ put_answer bound ls c m) × (set ls c (waiting ls c ++ (m ∷ [])) ≡ put_after bound ls c m)
      put_accepted free =
          let a : put_answer bound ls c m ≡ Ok tt = known ∙ cond-false _ _ _ good ∙ cond-false _ _ _ (lt-leb bound (length (waiting ls c)) free) in
          (sym a, sym (ap (λ (r : Result (Unit {0}) Refusal). added r ls c m) a))

fitting : (m : List ℕ) → 0 < length m → length m ≤ 1024 → misfit m ≡ false
fitting m some short = or_from _ _ (ne_eqb (length m) 0 (λ e. omega arith)) (le-ltb 1024 (length m) short)

module _ (f : ℕ → List (List ℕ)) where
  pub tabled_length : length (tabled f) ≡ 16
  unfolding tabled
  tabled_length = length-map-range_with_len f 0 16

  pub tabled_at : (c : ℕ) → c < 16 → waiting (tabled f) c ≡ f c
  unfolding tabled
  tabled_at c h = get_or-map-range_with_len f 0 16 c c [] h (omega arith)

  pub tabled_past : (c : ℕ) → 16 ≤ c → waiting (tabled f) c ≡ []
  tabled_past c h = get_or_past (tabled f) c [] (omega (arith, tabled_length))

  -- a table that differs from f's at c alone
  pub tabled_set : (g : ℕ → List (List ℕ)) (c : ℕ) (x : List (List ℕ)) → c < 16 → g c ≡ x → ((k : ℕ) → k < 16 → (k ≡ c → ⊥) → g k ≡ f k) → tabled g ≡ set (tabled f) c x
  unfolding tabled
  tabled_set g c x h here other =
      sym (fill_by_all g (set (tabled f) c x) 16 [] (length-set (tabled f) c x ∙ tabled_length)
      (λ k hk. ⊎_elim
      (λ (e : k ≡ c). rw e (get_or-set_same (tabled f) c x [] (omega (arith, tabled_length)) ∙ sym here))
      (λ ne. get_or-set_other (tabled f) c k x [] ne ∙ tabled_at k hk ∙ sym (other k hk ne))
      (cases_eq k c)))

  -- one more for c
  pub put_added : (g : ℕ → List (List ℕ)) (bound c : ℕ) (m : List ℕ) → c < 16 → misfit m ≡ false → length (f c) < bound → g c ≡ f c ++ (m ∷ []) → ((k : ℕ) → k < 16 → (k ≡ c → ⊥) → g k ≡ f k) → (Ok tt ≡ put_answer bound (tabled f) c m) × (tabled g ≡ put_after bound (tabled f) c m)
  put_added g bound c m h good free here other =
      let e = tabled_at c h in
      let p = put_accepted bound (tabled f) c m h good (rw e free) in
      (p.0, tabled_set g c (waiting (tabled f) c ++ (m ∷ [])) h (here ∙ ap (λ (w : List (List ℕ)). w ++ (m ∷ [])) (sym e)) other ∙ p.1)

  -- take, where nothing waits
  pub take_nothing : (c : ℕ) (b : List ℕ) → waiting (tabled f) c ≡ [] → (Ok 0 ≡ take_answer (waiting (tabled f) c) (length b)) × (tabled f ≡ take_after (tabled f) c (length b)) × (b ≡ take_buffer (waiting (tabled f) c) b)
  take_nothing c b e = (
    ap (λ (w : List (List ℕ)). take_answer w (length b)) (sym e),
    sym (ap (λ (w : List (List ℕ)). set (tabled f) c (taken w (length b))) e ∙ ap (set (tabled f) c) (sym e) ∙ set-get_or (tabled f) c []),
    ap (λ (w : List (List ℕ)). take_buffer w b) (sym e),
  )

  -- no such connection
  pub take_past : (c : ℕ) (b : List ℕ) → 16 ≤ c → (Ok 0 ≡ take_answer (waiting (tabled f) c) (length b)) × (tabled f ≡ take_after (tabled f) c (length b)) × (b ≡ take_buffer (waiting (tabled f) c) b)
  take_past c b h = take_nothing c b (tabled_past c h)

  pub clear_past : (c : ℕ) → 16 ≤ c → tabled f ≡ clear_after (tabled f) c
  clear_past c h = sym (set_past (tabled f) c [] (omega (arith, tabled_length)))

  -- the connection of a number
  module _ (k : Connection) (c : ℕ) (is : k.number ≡ c) where
    pub waiting_is : waiting (tabled f) c ≡ f k.number
    waiting_is = ap (waiting (tabled f)) (sym is) ∙ tabled_at k.number k.within

    -- one that differs at c alone
    pub set_is : (g : ℕ → List (List ℕ)) (x : List (List ℕ)) → g k.number ≡ x → ((d : ℕ) → d < 16 → (d ≡ k.number → ⊥) → g d ≡ f d) → tabled g ≡ set (tabled f) c x
    set_is g x here other = tabled_set g k.number x k.within here other ∙ ap (λ (d : ℕ). set (tabled f) d x) is

    -- clear, where nothing waits
    pub clear_none : f k.number ≡ [] → tabled f ≡ clear_after (tabled f) c
    clear_none none = sym (ap (set (tabled f) c) (sym (waiting_is ∙ none)) ∙ set-get_or (tabled f) c [])

    -- put
    module _ (bound : ℕ) (w : Message) (m : List ℕ) (e : w.bytes.now ≡ m) where
      good : misfit m ≡ false
      good = fitting m (rw (← e) w.some) (rw (← e) w.short)

      pub put_full : bound ≤ length (f k.number) → (Err Full ≡ put_answer bound (tabled f) c m) × (tabled f ≡ put_after bound (tabled f) c m)
      put_full full = put_filled bound (tabled f) c m (omega (arith, k.within)) good (rw waiting_is full)

      -- one more
      pub put_done : (g : ℕ → List (List ℕ)) → length (f k.number) < bound → g k.number ≡ f k.number ++ (m ∷ []) → ((d : ℕ) → d < 16 → (d ≡ k.number → ⊥) → g d ≡ f d) → (Ok tt ≡ put_answer bound (tabled f) c m) × (tabled g ≡ put_after bound (tabled f) c m)
      put_done g room here other =
          subst (λ (d : ℕ). (Ok tt ≡ put_answer bound (tabled f) d m) × (tabled g ≡ put_after bound (tabled f) d m)) is
          (put_added g bound k.number m k.within good room here other)

    -- take
    module _ (b : List ℕ) where
      pub take_none : f k.number ≡ [] → (Ok 0 ≡ take_answer (waiting (tabled f) c) (length b)) × (tabled f ≡ take_after (tabled f) c (length b)) × (b ≡ take_buffer (waiting (tabled f) c) b)
      take_none none = take_nothing c b (waiting_is ∙ none)

      -- the buffer is too short
      pub take_short : (m : List ℕ) (ms : List (List ℕ)) → f k.number ≡ m ∷ ms → length b < length m → (Err ShortBuffer ≡ take_answer (waiting (tabled f) c) (length b)) × (tabled f ≡ take_after (tabled f) c (length b)) × (b ≡ take_buffer (waiting (tabled f) c) b)
      take_short m ms first lt =
          let e = waiting_is ∙ first in
          let t = lt-leb (length m) (length b) lt in (
            sym (ap (λ (w : List (List ℕ)). take_answer w (length b)) e ∙ cond-false _ (Ok (length m)) (Err ShortBuffer) t),
            sym (ap (λ (w : List (List ℕ)). set (tabled f) c (taken w (length b))) e ∙ ap (set (tabled f) c) (cond-false _ ms (m ∷ ms) t ∙ sym e) ∙ set-get_or (tabled f) c []),
            sym (ap (λ (w : List (List ℕ)). take_buffer w b) e ∙ cond-false _ (m ++ drop (length m) b) b t),
          )

      -- the oldest goes
      pub take_done : (g : ℕ → List (List ℕ)) (m : List ℕ) → f k.number ≡ m ∷ g k.number → length m ≤ length b → ((d : ℕ) → d < 16 → (d ≡ k.number → ⊥) → g d ≡ f d) → (Ok (length m) ≡ take_answer (waiting (tabled f) c) (length b)) × (tabled g ≡ take_after (tabled f) c (length b)) × (m ++ drop (length m) b ≡ take_buffer (waiting (tabled f) c) b)
      take_done g m first le other =
          let ms = g k.number in
          let e = waiting_is ∙ first in
          let t = le-leb (length m) (length b) le in (
            sym (ap (λ (w : List (List ℕ)). take_answer w (length b)) e ∙ cond-true _ (Ok (length m)) (Err ShortBuffer) t),
            set_is g (taken (waiting (tabled f) c) (length b)) (sym (ap (λ (w : List (List ℕ)). taken w (length b)) e ∙ cond-true _ ms (m ∷ ms) t)) other,
            sym (ap (λ (w : List (List ℕ)). take_buffer w b) e ∙ cond-true _ (m ++ drop (length m) b) b t),
          )

-- the laws, from what holds of the list of each connection
pub laws_of : {S : Type 0} (f : S → ℕ → List (List ℕ)) (bound : S → ℕ) → ((s : S) (c : ℕ) → c < 16 → length (f s c) ≤ bound s) → ((s : S) (c : ℕ) → c < 16 → All (λ m. IsSize (length m)) (f s c)) → Laws (λ s. tabled (f s)) bound
laws_of f bound fills sizes = record {
  sixteen = λ s. tabled_length (f s);
  within = λ s c. ⊎_elim
      (λ (h : c < 16). rw (tabled_at (f s) c h) (fills s c h))
      (λ h. omega (arith, ap length (tabled_past (f s) c h)))
      (cases_lt c 16);
  sized = λ s c p hp. ⊎_elim
      (λ (h : c < 16). let e = tabled_at (f s) c h in rw e (All-get_or (λ m. IsSize (length m)) (f s c) p [] (rw e at hp) (sizes s c h)))
      (λ h. absurd (omega (arith, ap length (tabled_past (f s) c h))))
      (cases_lt c 16);
}
