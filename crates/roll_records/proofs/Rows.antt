-- Laws of rows of records.
use Rattle.std.proofs.Common.{◌≡◌, ℕ, zero, suc, ◌+◌, ◌-◌, ◌*◌, ◌/◌, ◌%◌, ◌<◌, ◌≤◌, true, false, cond, eqb, List, [], ◌∷◌, ◌++◌, length, map, get_or, take, drop, set, sym, refl, ap, ◌∙◌, ap₂, subst, ⊎_elim, append_assoc, div-add-mod', arith}
use lib.Seq.{paste}
use Rattle.std.proofs.lemmas.List.{append-nil, drop_all, drop_at, drop-drop, drop_more, get_or-drop, get_or_past, get_or-set_same, get_or-set_other, length-append, length-drop, length-set, length_push, take_at}
use Rattle.std.specs.List.{All, sum_by, range_with_len}
use Rattle.std.proofs.lemmas.List.FromFn.{length-map-range_with_len, get_or-map-range_with_len}
use Rattle.std.proofs.lemmas.List.Elements.{All-cons, All-from_get_or, All-get_or, All-head, All-push, All-set, All-tail}
use Rattle.std.proofs.lemmas.List.Sums.{sum_by-le, sum_by-set}
use Rattle.std.proofs.lemmas.Bool.{cases_Bool, cases_eq, cases_lt, cond-true, cond-false, eqb-true, eq-eqb, ne_eqb}
use Rattle.area.specs.Writes.{written}
use Rattle.mailbox.specs.Lists.{IsSize}
use Rattle.roll_records.specs.Records.{Record, record_of, head, encode, length_at, decode, messages, before, behind, without, Laid, Good, Sound, Tallied, First}

size_of : (m : List ℕ) → length m % 256 + length m / 256 * 256 ≡ length m
size_of m = omega (arith, div-add-mod' (length m) 256)

drop_record : (c a b : ℕ) (m rest : List ℕ) → drop (3 + length m) (c ∷ a ∷ b ∷ (m ++ rest)) ≡ rest
drop_record c a b m rest = sym (drop-drop (length m) 3 (c ∷ a ∷ b ∷ (m ++ rest))) ∙ drop_at m rest (length m) refl

-- what was laid is read back
decode_encode : (rs : List Record) (junk : List ℕ) → decode (length rs) (encode rs ++ junk) ≡ rs
decode_encode [] junk = refl
decode_encode (r ∷ rs) junk =
    let c = r.connection in
    let m = r.message in
    let z = size_of m in
    let grouped : (m ++ encode rs) ++ junk ≡ m ++ (encode rs ++ junk) = append_assoc m (encode rs) junk in
    let front : take (length m % 256 + length m / 256 * 256) ((m ++ encode rs) ++ junk) ≡ m = ap₂ (λ (n : ℕ) (xs : List ℕ). take n xs) z grouped ∙ take_at m (encode rs ++ junk) (length m) refl in
    let back : drop (3 + (length m % 256 + length m / 256 * 256)) (c ∷ (length m % 256) ∷ (length m / 256) ∷ ((m ++ encode rs) ++ junk)) ≡ encode rs ++ junk = ap₂ (λ (n : ℕ) (xs : List ℕ). drop (3 + n) (c ∷ (length m % 256) ∷ (length m / 256) ∷ xs)) z grouped ∙ drop_record c _ _ m (encode rs ++ junk) in
    ap₂ (λ (w xs : List ℕ). record_of c w ∷ decode (length rs) xs) front back ∙ ap (λ (xs : List Record). r ∷ xs) (decode_encode rs junk)

encode_append : (xs ys : List Record) → encode (xs ++ ys) ≡ encode xs ++ encode ys
encode_append [] ys = refl
encode_append (r ∷ rs) ys =
    ap (λ (t : List ℕ). head r.connection r.message ++ t)
    (ap (λ (t : List ℕ). r.message ++ t) (encode_append rs ys) ∙ sym (append_assoc r.message (encode rs) (encode ys)))

-- an area that begins with the bytes of rs
laid_by : (rs : List Record) (area junk : List ℕ) (n : ℕ) → area ≡ encode rs ++ junk → n ≡ length rs → (decode n area ≡ rs) × Laid n area
laid_by rs area junk n e l =
    let p : decode n area ≡ rs = ap₂ decode l e ∙ decode_encode rs junk in
    let d : drop (length (encode rs)) area ≡ junk = ap (drop (length (encode rs))) e ∙ drop_at (encode rs) junk (length (encode rs)) refl in
    (p, rw p (e ∙ ap (λ (t : List ℕ). encode rs ++ t) (sym d)))

pub decode_length : (n : ℕ) (xs : List ℕ) → length (decode n xs) ≡ n
decode_length zero xs = refl
decode_length (suc n) xs = ap suc (decode_length n (drop (3 + length_at xs 0) xs))

pub laid_length : (n : ℕ) (area : List ℕ) → Laid n area → length (encode (decode n area)) ≤ length area
laid_length n area l = omega (arith, ap length l ∙ length-append (encode (decode n area)) (drop (length (encode (decode n area))) area))

messages_append : (c : ℕ) (xs ys : List Record) → messages c (xs ++ ys) ≡ messages c xs ++ messages c ys
messages_append c [] ys = refl
messages_append c (r ∷ rs) ys =
    ⊎_elim
    (λ (t : eqb r.connection c ≡ true). rw t (ap (λ (x : List (List ℕ)). r.message ∷ x) (messages_append c rs ys)))
    (λ f. rw f (messages_append c rs ys))
    (cases_Bool (eqb r.connection c))

without_parts : (c : ℕ) (rs : List Record) → without c rs ≡ before c rs ++ behind c rs
without_parts c [] = refl
without_parts c (r ∷ rs) =
    ⊎_elim
    (λ (t : eqb r.connection c ≡ true). rw t)
    (λ f. rw f (ap (λ (x : List Record). r ∷ x) (without_parts c rs)))
    (cases_Bool (eqb r.connection c))

-- closing up over a record of c leaves the others what they had
pub messages_without : (c d : ℕ) (rs : List Record) → (d ≡ c → ⊥) → messages d (without c rs) ≡ messages d rs
messages_without c d [] ne = refl
messages_without c d (r ∷ rs) ne =
    ⊎_elim
    (λ (t : eqb r.connection c ≡ true). rw (t, ne_eqb r.connection d (λ e. ne (omega (arith, eqb-true r.connection c t)))))
    (λ f. rw f (ap (λ (x : List (List ℕ)). cond (eqb r.connection d) (r.message ∷ x) x) (messages_without c d rs ne)))
    (cases_Bool (eqb r.connection c))

-- where c has a record, the row splits at its first, and that is its oldest
split : (c : ℕ) (rs : List Record) → 0 < length (messages c rs) → (m : List ℕ) × ((rs ≡ before c rs ++ (record_of c m ∷ behind c rs)) × (messages c rs ≡ m ∷ messages c (without c rs)))
split c [] h = absurd (omega arith)
split c (r ∷ rs) h =
    ⊎_elim
    (λ (t : eqb r.connection c ≡ true). (r.message, (rw t (ap (λ (k : ℕ). record_of k r.message ∷ rs) (eqb-true r.connection c t)), rw t)))
    (λ (f : eqb r.connection c ≡ false).
    let s = split c rs (rw f at h) in
    (s.0, (rw f (ap (λ (x : List Record). r ∷ x) s.1.0), rw (f, f) s.1.1)))
    (cases_Bool (eqb r.connection c))

-- what stands at a record's place
pub record Here (area : List ℕ) (rs : List Record) (junk : List ℕ) (at k : ℕ) : Type 0 where
  pub inside : at + 3 + length (get_or rs k (record_of 0 [])).message ≤ length area
  pub first : get_or area at 0 ≡ (get_or rs k (record_of 0 [])).connection
  pub long : length_at area at ≡ length (get_or rs k (record_of 0 [])).message
  pub next : drop (at + (3 + length (get_or rs k (record_of 0 [])).message)) area ≡ encode (drop (k + 1) rs) ++ junk
  pub cut : drop k rs ≡ get_or rs k (record_of 0 []) ∷ drop (k + 1) rs

pub here : (area : List ℕ) (rs : List Record) (junk : List ℕ) (at k : ℕ) → k < length rs → drop at area ≡ encode (drop k rs) ++ junk → Here area rs junk at k
here area rs junk at k h e =
    let r = get_or rs k (record_of 0 []) in
    let c = r.connection in
    let m = r.message in
    let rest = encode (drop (k + 1) rs) ++ junk in
    let hd : drop k rs ≡ r ∷ drop (k + 1) rs = drop_more rs k (record_of 0 []) h in
    let f : drop at area ≡ c ∷ (length m % 256) ∷ (length m / 256) ∷ (m ++ rest) = e ∙ ap (λ (x : List Record). encode x ++ junk) hd ∙ ap (λ (x : List ℕ). head c m ++ x) (append_assoc m (encode (drop (k + 1) rs)) junk) in
    let n = ap length f in
    let l = length-append m rest in
    let w = length-drop at area in
    let g0 = sym (get_or-drop at area 0 0) ∙ ap (λ (xs : List ℕ). get_or xs 0 0) f in
    let g1 = sym (get_or-drop at area 1 0) ∙ ap (λ (xs : List ℕ). get_or xs 1 0) f in
    let g2 = sym (get_or-drop at area 2 0) ∙ ap (λ (xs : List ℕ). get_or xs 2 0) f in
    let z : at + 0 ≡ at = omega arith in
    record {
      inside = omega arith;
      first = ap (λ (j : ℕ). get_or area j 0) (sym z) ∙ g0;
      long = ap₂ (λ (x y : ℕ). x + y * 256) g1 g2 ∙ size_of m;
      next = sym (drop-drop (3 + length m) at area) ∙ ap (drop (3 + length m)) f ∙ drop_record c _ _ m rest;
      cut = hd;
    }

-- a step over a record of another, and the stop at one of c
pub before_step : (c : ℕ) (r : Record) (rs : List Record) → (r.connection ≡ c → ⊥) → length (encode (before c (r ∷ rs))) ≡ 3 + length r.message + length (encode (before c rs))
before_step c r rs ne = rw (ne_eqb r.connection c ne) (omega (arith, length-append r.message (encode (before c rs))))

pub before_stop : (c : ℕ) (r : Record) (rs : List Record) → r.connection ≡ c → length (encode (before c (r ∷ rs))) ≡ 0
before_stop c r rs e = rw (eq-eqb r.connection c e)

pub sound_without : (c : ℕ) (rs : List Record) → Sound rs → Sound (without c rs)
sound_without c [] s = s
sound_without c (r ∷ rs) s =
    let rest = All-tail Good r rs s in
    ⊎_elim
    (λ (t : eqb r.connection c ≡ true). rw t rest)
    (λ f. rw f (All-cons Good r (without c rs) (All-head Good r rs s) (sound_without c rs rest)))
    (cases_Bool (eqb r.connection c))

pub sized_messages : (c : ℕ) (rs : List Record) → Sound rs → All (λ m. IsSize (length m)) (messages c rs)
sized_messages c [] s = λ k d h. absurd (omega arith)
sized_messages c (r ∷ rs) s =
    let g = All-head Good r rs s in
    let rest = sized_messages c rs (All-tail Good r rs s) in
    ⊎_elim
    (λ (t : eqb r.connection c ≡ true). rw t (All-cons (λ m. IsSize (length m)) r.message (messages c rs) (g.1, g.2) rest))
    (λ f. rw f rest)
    (cases_Bool (eqb r.connection c))

-- how long a row is

encode_size : (rs : List Record) → Sound rs → length (encode rs) ≤ 1027 * length rs
encode_size [] s = omega arith
encode_size (r ∷ rs) s =
    let g = All-head Good r rs s in
    omega (arith, length-append r.message (encode rs), encode_size rs (All-tail Good r rs s))

-- no count is above the limit, behind the last one neither
pub fills_at : (counts : List ℕ) (lim : ℕ) → All (λ n. n ≤ lim) counts → (d : ℕ) → get_or counts d 0 ≤ lim
fills_at counts lim all d = ⊎_elim
    (λ (h : d < length counts). All-get_or (λ n. n ≤ lim) counts d 0 h all)
    (λ h. omega (arith, get_or_past counts d 0 h))
    (cases_lt d (length counts))

-- a count less one, where a record of c is gone
pub tallied_less : (counts : List ℕ) (rs ss : List Record) (c : ℕ) (m : List ℕ) → c < length counts → Tallied counts rs → messages c rs ≡ m ∷ messages c ss → ((d : ℕ) → (d ≡ c → ⊥) → messages d ss ≡ messages d rs) → Tallied (set counts c (get_or counts c 0 - 1)) ss
tallied_less counts rs ss c m h t here other d =
    let less = get_or counts c 0 - 1 in
    ⊎_elim
    (λ (e : d ≡ c). rw e (omega (arith, get_or-set_same counts c less 0 h, t c, ap length here)))
    (λ ne. omega (arith, get_or-set_other counts c d less 0 ne, t d, ap length (other d ne)))
    (cases_eq d c)

-- the counts say how many records there are, in all
tally : (rs : List Record) (counts : List ℕ) → length counts ≡ 16 → Sound rs → Tallied counts rs → length rs ≡ sum_by (λ n. n) counts
tally [] counts l s t = omega (arith, sum_by-le (λ n. n) 0 counts (All-from_get_or (λ n. n ≤ 0) counts 0 (λ k h. omega (arith, t k))))
tally (r ∷ rs) counts l s t =
    let c = r.connection in
    let less = get_or counts c 0 - 1 in
    let h : c < length counts = omega (arith, (All-head Good r rs s).0) in
    let here : messages c (r ∷ rs) ≡ r.message ∷ messages c rs = cond-true (eqb c c) _ _ (eq-eqb c c refl) in
    let t' = tallied_less counts (r ∷ rs) rs c r.message h t here (λ d ne. sym (cond-false (eqb c d) _ _ (ne_eqb c d (λ e. ne (sym e))))) in
    omega (arith, t c, ap length here, sum_by-set (λ n. n) counts c less 0 h, tally rs (set counts c less) (length-set counts c less ∙ l) (All-tail Good r rs s) t')

-- there is room for one more record where a connection may have one more
pub room_for : (rs : List Record) (counts : List ℕ) (lim c : ℕ) → length counts ≡ 16 → Sound rs → Tallied counts rs → All (λ n. n ≤ lim) counts → c < 16 → get_or counts c 0 < lim → length (encode rs) + 1027 ≤ lim * 16432
room_for rs counts lim c l s t all hc free =
    let more = get_or counts c 0 + 1 in
    let h : c < length counts = omega arith in
    let whole = sum_by-le (λ n. n) lim (set counts c more) (All-set (λ n. n ≤ lim) counts c more (omega arith) all) in
    let long : length (set counts c more) ≡ 16 = length-set counts c more ∙ l in
    let bound : sum_by (λ n. n) (set counts c more) ≤ 16 * lim = rw (← long) whole in
    omega (arith, sum_by-set (λ n. n) counts c more 0 h, tally rs counts l s t, encode_size rs s)

-- and few records, in all
pub few : (rs : List Record) (counts : List ℕ) (lim : ℕ) → length counts ≡ 16 → Sound rs → Tallied counts rs → All (λ n. n ≤ lim) counts → length rs ≤ 16 * lim
few rs counts lim l s t all = rw (← l) (rw (← tally rs counts l s t) at (sum_by-le (λ n. n) lim counts all))

-- only the sixteen have counts above 0
pub counted_below : (counts : List ℕ) (c : ℕ) → length counts ≡ 16 → 0 < get_or counts c 0 → c < 16
counted_below counts c l some = ⊎_elim (λ (h : c < 16). h) (λ h. absurd (omega (arith, get_or_past counts c 0 (omega arith)))) (cases_lt c 16)

-- counts of any length: those of the sixteen connections are all that count
no_messages : (c : ℕ) (rs : List Record) → 16 ≤ c → Sound rs → messages c rs ≡ []
no_messages c [] h s = refl
no_messages c (r ∷ rs) h s =
    cond-false (eqb r.connection c) _ _ (ne_eqb r.connection c (λ e. omega (arith, (All-head Good r rs s).0)))
    ∙ no_messages c rs h (All-tail Good r rs s)

unfoldable sixteen : List ℕ → List ℕ
sixteen counts = map (λ c. get_or counts c 0) (range_with_len 0 16)

sixteen_length : (counts : List ℕ) → length (sixteen counts) ≡ 16
unfolding sixteen
sixteen_length counts = length-map-range_with_len (λ c. get_or counts c 0) 0 16

sixteen_at : (counts : List ℕ) (c : ℕ) → c < 16 → get_or (sixteen counts) c 0 ≡ get_or counts c 0
unfolding sixteen
sixteen_at counts c h = get_or-map-range_with_len (λ d. get_or counts d 0) 0 16 c c 0 h (omega arith)

module _ (rs : List Record) (counts : List ℕ) (lim : ℕ) (s : Sound rs) (t : Tallied counts rs) (all : (d : ℕ) → get_or counts d 0 ≤ lim) where
  sixteen_tallied : Tallied (sixteen counts) rs
  sixteen_tallied c = ⊎_elim
      (λ (h : c < 16). sixteen_at counts c h ∙ t c)
      (λ h. get_or_past (sixteen counts) c 0 (omega (arith, sixteen_length counts)) ∙ sym (ap length (no_messages c rs (omega arith) s)))
      (cases_lt c 16)

  sixteen_fill : All (λ n. n ≤ lim) (sixteen counts)
  sixteen_fill = All-from_get_or (λ n. n ≤ lim) (sixteen counts) 0 (λ k h. omega (arith, sixteen_at counts k (omega (arith, sixteen_length counts)), all k))

  pub room_for_any : (c : ℕ) → c < 16 → get_or counts c 0 < lim → length (encode rs) + 1027 ≤ lim * 16432
  room_for_any c h free = room_for rs (sixteen counts) lim c (sixteen_length counts) s sixteen_tallied sixteen_fill h (omega (arith, sixteen_at counts c h))

  pub few_of_any : length rs ≤ lim * 16
  few_of_any = omega (arith, few rs (sixteen counts) lim (sixteen_length counts) s sixteen_tallied sixteen_fill)

-- one record more
pub record Put (area area' : List ℕ) (n used c : ℕ) (m : List ℕ) : Type 0 where
  pub rows : decode (n + 1) area' ≡ decode n area ++ (record_of c m ∷ [])
  pub laid : Laid (n + 1) area'
  pub ends : length (encode (decode (n + 1) area')) ≡ used + (3 + length m)

pub put_row : (area area' : List ℕ) (n used c : ℕ) (m : List ℕ) → Laid n area → length (encode (decode n area)) ≡ used → area' ≡ written area used (head c m ++ m) → Put area area' n used c m
put_row area area' n used c m l e w =
    let rs = decode n area in
    let more = record_of c m ∷ [] in
    let junk = drop (used + length (head c m ++ m)) area in
    let front : take used area ≡ encode rs = ap (take used) l ∙ take_at (encode rs) (drop (length (encode rs)) area) used e in
    let tail : encode more ++ junk ≡ (head c m ++ m) ++ junk = ap (λ (x : List ℕ). head c m ++ (x ++ junk)) (append-nil m) in
    let whole : area' ≡ encode (rs ++ more) ++ junk = w ∙ ap₂ (λ (x y : List ℕ). x ++ y) front (sym tail) ∙ sym (append_assoc (encode rs) (encode more) junk) ∙ ap (λ (x : List ℕ). x ++ junk) (sym (encode_append rs more)) in
    let b = laid_by (rs ++ more) area' junk (n + 1) whole (omega (arith, length_push rs (record_of c m), decode_length n area)) in
    record {
      rows = b.0;
      laid = b.1;
      ends = ap (λ (x : List Record). length (encode x)) b.0 ∙ ap length (encode_append rs more) ∙ omega (arith, length-append (encode rs) (encode more), ap length (append-nil m));
    }

pub tallied_put : (counts : List ℕ) (rs : List Record) (c : ℕ) (m : List ℕ) → c < length counts → Tallied counts rs → Tallied (set counts c (get_or counts c 0 + 1)) (rs ++ (record_of c m ∷ []))
tallied_put counts rs c m h t d =
    let o = ap length (messages_append d rs (record_of c m ∷ [])) ∙ length-append (messages d rs) (messages d (record_of c m ∷ [])) in
    ⊎_elim
    (λ (e : d ≡ c). omega (arith, ap (λ (j : ℕ). get_or (set counts c (get_or counts c 0 + 1)) j 0) e, ap (λ (j : ℕ). get_or counts j 0) e, get_or-set_same counts c (get_or counts c 0 + 1) 0 h, t d, ap length (cond-true (eqb c d) (m ∷ []) [] (eq-eqb c d (sym e)))))
    (λ ne. omega (arith, get_or-set_other counts c d (get_or counts c 0 + 1) 0 ne, t d, ap length (cond-false (eqb c d) (m ∷ []) [] (ne_eqb c d (λ e. ne (sym e))))))
    (cases_eq d c)

module _ (area area' : List ℕ) (n used c : ℕ) (m : List ℕ) (p : Put area area' n used c m) where
  pub put_sound : Sound (decode n area) → Good (record_of c m) → Sound (decode (n + 1) area')
  put_sound s g = subst Sound (sym p.rows) (All-push Good (decode n area) (record_of c m) s g)

  pub put_tallied : (counts : List ℕ) (i : ℕ) → i ≡ c → c < length counts → Tallied counts (decode n area) → Tallied (set counts i (get_or counts i 0 + 1)) (decode (n + 1) area')
  put_tallied counts i e h t =
      subst (λ (j : ℕ). Tallied (set counts j (get_or counts j 0 + 1)) (decode (n + 1) area')) (sym e)
      (subst (Tallied (set counts c (get_or counts c 0 + 1))) (sym p.rows) (tallied_put counts (decode n area) c m h t))

pub messages_put_here : (rs : List Record) (c : ℕ) (m : List ℕ) → messages c (rs ++ (record_of c m ∷ [])) ≡ messages c rs ++ (m ∷ [])
messages_put_here rs c m = messages_append c rs (record_of c m ∷ []) ∙ ap (λ (x : List (List ℕ)). messages c rs ++ x) (cond-true (eqb c c) (m ∷ []) [] (eq-eqb c c refl))

pub messages_put_other : (rs : List Record) (c d : ℕ) (m : List ℕ) → (d ≡ c → ⊥) → messages d (rs ++ (record_of c m ∷ [])) ≡ messages d rs
messages_put_other rs c d m ne = messages_append d rs (record_of c m ∷ []) ∙ ap (λ (x : List (List ℕ)). messages d rs ++ x) (cond-false (eqb c d) (m ∷ []) [] (ne_eqb c d (λ e. ne (sym e)))) ∙ append-nil (messages d rs)

-- the first record of c, where it has one
pub first_of : (area : List ℕ) (n used c at : ℕ) → Laid n area → length (encode (decode n area)) ≡ used → 0 < length (messages c (decode n area)) → at ≡ length (encode (before c (decode n area))) → First area n used c at (length_at area at)
first_of area n used c at l e one is =
    let rs = decode n area in
    let junk = drop (length (encode rs)) area in
    let sp = split c rs one in
    let m : List ℕ = sp.0 in
    let b = before c rs in
    let q = behind c rs in
    let from = record_of c m ∷ q in
    let cut : rs ≡ b ++ from = sp.1.0 in
    let bytes : encode rs ≡ encode b ++ encode from = ap encode cut ∙ encode_append b from in
    let whole : area ≡ encode b ++ (encode from ++ junk) = l ∙ ap (λ (x : List ℕ). x ++ junk) bytes ∙ append_assoc (encode b) (encode from) junk in
    let dropped : drop at area ≡ encode from ++ junk = ap (drop at) whole ∙ drop_at (encode b) (encode from ++ junk) at (sym is) in
    let h = here area from junk at 0 (omega arith) dropped in
    let z : length_at area at ≡ length m = h.long in
    let msg : take (length_at area at) (drop (at + 3) area) ≡ m = ap₂ (λ (k : ℕ) (xs : List ℕ). take k xs) z (sym (drop-drop 3 at area) ∙ ap (drop 3) dropped ∙ append_assoc m (encode q) junk) ∙ take_at m (encode q ++ junk) (length m) refl in
    let lb = ap length bytes ∙ length-append (encode b) (encode from) in
    let lm = length-append m (encode q) in
    let lr = ap length cut ∙ length-append b from in
    let lw = ap length (without_parts c rs) ∙ length-append b q in
    let ln = decode_length n area in
    let far : at + 3 + length_at area at ≡ at + (3 + length m) = omega arith in
    record {
      begins = is;
      inside = omega arith;
      size = ap length msg ∙ sym z;
      oldest = sp.1.1 ∙ ap (λ (x : List ℕ). x ∷ messages c (without c rs)) (sym msg);
      front = ap (take at) whole ∙ take_at (encode b) (encode from ++ junk) at (sym is);
      back = ap (λ (k : ℕ). drop k area) far ∙ h.next ∙ ap (λ (k : ℕ). encode q ++ drop k area) e;
      ends = omega arith;
      count = omega arith;
    }

-- and its head lies in the area
pub first_within : (area : List ℕ) (n used c at len : ℕ) → Laid n area → length (encode (decode n area)) ≡ used → First area n used c at len → at + 3 ≤ length area
first_within area n used c at len l u f = omega (arith, f.inside, laid_length n area l)

-- a walk over the records that stands before the k-th, and has met none of c
pub record Walk (area : List ℕ) (n c at k : ℕ) : Type 0 where
  pub first : at + length (encode (before c (drop k (decode n area)))) ≡ length (encode (before c (decode n area)))
  pub rest : drop at area ≡ encode (drop k (decode n area)) ++ drop (length (encode (decode n area))) area
  pub all : messages c (drop k (decode n area)) ≡ messages c (decode n area)

module _ (area : List ℕ) (n c at k : ℕ) (w : Walk area n c at k) where
  pub walk_end : n ≤ k → messages c (decode n area) ≡ []
  walk_end h = sym w.all ∙ ap (messages c) (drop_all k (decode n area) (omega (arith, decode_length n area)))

  module _ (h : k < n) where
    pub walk_here : Here area (decode n area) (drop (length (encode (decode n area))) area) at k
    walk_here = here area (decode n area) _ at k (omega (arith, decode_length n area)) w.rest

    module _ (size : ℕ) (z : size ≡ length_at area at) where
      pub walk_on : (get_or area at 0 ≡ c → ⊥) → Walk area n c (at + (3 + size)) (k + 1)
      walk_on ne =
          let e = walk_here in
          let r = get_or (decode n area) k (record_of 0 []) in
          let other : r.connection ≡ c → ⊥ = λ i. ne (e.first ∙ i) in
          let rest = drop (k + 1) (decode n area) in
          let step = ap (λ (x : List Record). length (encode (before c x))) e.cut ∙ before_step c r rest other in
          let long : size ≡ length r.message = z ∙ e.long in
          record {
            first = omega (arith, w.first);
            rest = ap (λ (j : ℕ). drop (at + (3 + j)) area) long ∙ e.next;
            all = sym (ap (messages c) e.cut ∙ cond-false (eqb r.connection c) _ _ (ne_eqb r.connection c other)) ∙ w.all;
          }

      pub walk_stop : get_or area at 0 ≡ c → Laid n area → First area n (length (encode (decode n area))) c at size
      walk_stop is l =
          let e = walk_here in
          let r = get_or (decode n area) k (record_of 0 []) in
          let rest = drop (k + 1) (decode n area) in
          let same : r.connection ≡ c = sym e.first ∙ is in
          let some : messages c (decode n area) ≡ r.message ∷ messages c rest = sym w.all ∙ ap (messages c) e.cut ∙ cond-true (eqb r.connection c) _ _ (eq-eqb r.connection c same) in
          let stop = ap (λ (x : List Record). length (encode (before c x))) e.cut ∙ before_stop c r rest same in
          subst (First area n (length (encode (decode n area))) c at) (sym z)
          (first_of area n _ c at l refl (omega (arith, ap length some)) (omega (arith, w.first)))

-- the row closed up over it
pub record Taken (area area' : List ℕ) (n used c len : ℕ) : Type 0 where
  pub rows : decode (n - 1) area' ≡ without c (decode n area)
  pub laid : Laid (n - 1) area'
  pub ends : length (encode (decode (n - 1) area')) ≡ used - (3 + len)

pub take_row : (area area' : List ℕ) (n used c at len : ℕ) → First area n used c at len → area' ≡ paste area at (drop (at + 3 + len) area) (used - (at + 3 + len)) → Taken area area' n used c len
take_row area area' n used c at len f w =
    let rs = decode n area in
    let b = before c rs in
    let q = behind c rs in
    let is = f.begins in
    let fe = f.ends in
    let fc = f.count in
    let k : used - (at + 3 + len) ≡ length (encode q) = omega arith in
    let bl = length-append (encode b) (encode q) in
    let enc : encode (without c rs) ≡ encode b ++ encode q = ap encode (without_parts c rs) ∙ encode_append b q in
    let mid : take (used - (at + 3 + len)) (drop (at + 3 + len) area) ≡ encode q = ap₂ (λ (x : ℕ) (ys : List ℕ). take x ys) k f.back ∙ take_at (encode q) (drop used area) (length (encode q)) refl in
    let junk = drop (at + (used - (at + 3 + len))) area in
    let whole : area' ≡ encode (without c rs) ++ junk = w ∙ ap₂ (λ (x y : List ℕ). x ++ y ++ junk) f.front mid ∙ ap (λ (x : List ℕ). x ++ junk) (sym enc) in
    let t = laid_by (without c rs) area' junk (n - 1) whole (omega arith) in
    record {
      rows = t.0;
      laid = t.1;
      ends = ap (λ (x : List Record). length (encode x)) t.0 ∙ ap length enc ∙ omega arith;
    }

module _ (area area' : List ℕ) (n used c at len : ℕ) (p : Taken area area' n used c len) where
  pub take_sound : Sound (decode n area) → Sound (decode (n - 1) area')
  take_sound s = subst Sound (sym p.rows) (sound_without c (decode n area) s)

  pub take_tallied : (counts : List ℕ) (i : ℕ) → i ≡ c → c < length counts → Tallied counts (decode n area) → First area n used c at len → Tallied (set counts i (get_or counts i 0 - 1)) (decode (n - 1) area')
  take_tallied counts i e h t f =
      subst (λ (j : ℕ). Tallied (set counts j (get_or counts j 0 - 1)) (decode (n - 1) area')) (sym e)
      (subst (Tallied (set counts c (get_or counts c 0 - 1))) (sym p.rows) (tallied_less counts (decode n area) (without c (decode n area)) c _ h t f.oldest (λ d ne. messages_without c d (decode n area) ne)))

-- `hi` and `ok` for 3 and `!` for 0 between them, as they lie, and after 3 took its first
three : List Record
three = record_of 3 (104 ∷ 105 ∷ []) ∷ record_of 0 (33 ∷ []) ∷ record_of 3 (111 ∷ 107 ∷ []) ∷ []

lie_so : encode three ≡ 3 ∷ 2 ∷ 0 ∷ 104 ∷ 105 ∷ 0 ∷ 1 ∷ 0 ∷ 33 ∷ 3 ∷ 2 ∷ 0 ∷ 111 ∷ 107 ∷ []
unfolding three
lie_so = refl

and_then : encode (without 3 three) ≡ 0 ∷ 1 ∷ 0 ∷ 33 ∷ 3 ∷ 2 ∷ 0 ∷ 111 ∷ 107 ∷ []
unfolding three
and_then = refl
