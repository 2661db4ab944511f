-- The values of the fields that were read lie well.
use Rattle.std.proofs.Common.{◌≡◌, ℕ, ◌+◌, ◌<◌, ◌≤◌, ◌≢◌, ◌⊎◌, List, [], length, get_or, take, set, IfOk, Some, None, Ok, Option, Result, sym, refl, ap, ◌∙◌, subst, inl, inr, arith, get_or-set_other}
use Rattle.std.proofs.lemmas.Grind.{get_or-set_at}
use Rattle.std.proofs.lemmas.List.{set_past, get_or-replicate}
use Rattle.signature.specs.Codes.{basic_align}
use Rattle.signature.specs.Trees.{Tree, spell}
use Rattle.items.specs.declared.fault.Flaw.{Flaw}
use Rattle.items.specs.Items.{Item, Leaf, codes_at}
use Rattle.items.proofs.Once.{ok_inj, never}
use Rattle.values.specs.Values.{Value}
use Rattle.fields.specs.declared.known.Field.{Field}
use Rattle.fields.specs.declared.known.Field.TheVariants.{Path, Interface, Member, ErrorName, ReplySerial, Destination, Sender, Signature}
use Rattle.fields.specs.declared.Fields.{Fields}
use Rattle.fields.specs.Known.{known, field_type, index_of}
use Rattle.fields.specs.Headers.{place_of, none_yet, Own, start, noted, Proper, Fitting, Valued, AfterCode, AfterPadding, OneField, AllFields, no_more, bad_one, one_more, Padded, Header, Held, Holds}
use Rattle.fields.proofs.Parts.{kinded_tells, pad_is, own_leaf}

none_some : {A B : Type 0} (x : A) → None ≡ Some x → B
none_some x e = let z : ◌≡◌ {A = ℕ} 0 1 = cc in absurd (omega arith)

-- the codes of the fields are those that are known, so a field is known by its place
known_code : (f : Field) → known (index_of f + 1) ≡ Some f
known_code Path = refl
known_code Interface = refl
known_code Member = refl
known_code ErrorName = refl
known_code ReplySerial = refl
known_code Destination = refl
known_code Sender = refl
known_code Signature = refl

some_once : {A : Type 0} (x y : A) → Some x ≡ Some y → x ≡ y
some_once x y e = cc

index_once : (f g : Field) → index_of f ≡ index_of g → f ≡ g
index_once f g e = some_once f g (sym (known_code f) ∙ ap (λ (n : ℕ). known (n + 1)) e ∙ known_code g)

index_below : (f : Field) → index_of f < 8
index_below Path = omega arith
index_below Interface = omega arith
index_below Member = omega arith
index_below ErrorName = omega arith
index_below ReplySerial = omega arith
index_below Destination = omega arith
index_below Sender = omega arith
index_below Signature = omega arith

nothing : (f : Field) (p : ℕ) → place_of none_yet.places f ≡ Some p → ⊥
nothing f p e = none_some p (sym (get_or-replicate 8 (index_of f) None None (index_below f)) ∙ e)

apart : (m n : ℕ) → (m ≡ n) ⊎ (m ≢ n)
apart m n = grind arith

within_or_past : (m n : ℕ) → (m < n) ⊎ (n ≤ m)
within_or_past m n = grind arith

-- one field more
module _ (ordered : List ℕ → List ℕ) (area : List ℕ) (xs : List (Option ℕ)) (g : Field) (v : ℕ) (new : Held ordered area g v) (old : Holds ordered area xs) where
  set_holds_by : (f : Field) (p : ℕ) → (index_of f ≡ index_of g) ⊎ (index_of f ≢ index_of g) → (index_of g < length xs) ⊎ (length xs ≤ index_of g) → get_or (set xs (index_of g) (Some v)) (index_of f) None ≡ Some p
      → Held ordered area f p
  set_holds_by f p (inl same) (inl within) e =
      let found = get_or-set_at xs (index_of g) (index_of f) (Some v) None same within in
      subst (λ (h : Field). Held ordered area h p) (sym (index_once f g same)) (subst (λ (n : ℕ). Held ordered area g n) (some_once v p (sym found ∙ e)) new)
  set_holds_by f p (inl same) (inr past) e = old f p (ap (λ (ys : List (Option ℕ)). get_or ys (index_of f) None) (sym (set_past xs (index_of g) (Some v) past)) ∙ e)
  set_holds_by f p (inr other) w e = old f p (sym (get_or-set_other xs (index_of g) (index_of f) (Some v) None other) ∙ e)

  set_holds : Holds ordered area (set xs (index_of g) (Some v))
  set_holds f p e = set_holds_by f p (apart (index_of f) (index_of g)) (within_or_past (index_of g) (length xs)) e

-- a value of a field's own type, and proper
module _ (ordered : List ℕ → List ℕ) (bytes : List ℕ) (end : ℕ) where
  leaf_held : (g : Field) (p q : ℕ) → Leaf (take end bytes) ordered (field_type g) 0 p (Ok q) → Proper ordered (take end bytes) (Some g) (start (Some g) p) → Held ordered (take end bytes) g (start (Some g) p)
  leaf_held g p q (inl h) proper = record {
    end = q;
    lies = subst (λ (z : ℕ). Item (take end bytes) ordered (field_type g) 0 z (Ok q)) (pad_is ordered (take end bytes) (basic_align (field_type g)) p h.0 h.1) h.2;
    proper = proper;
  }
  leaf_held g p q (inr h) proper = never q h.0 h.2

  module _ (s t : Fields) (old : Holds ordered (take end bytes) s.places) where
    noted_holds : (o : Option Field) (p q : ℕ) → t ≡ noted s o p q → ((g : Field) → o ≡ Some g → Held ordered (take end bytes) g p) → Holds ordered (take end bytes) t.places
    noted_holds None p q same new = subst (λ (x : Fields). Holds ordered (take end bytes) x.places) (sym same) old
    noted_holds (Some g) p q same new =
        subst (λ (x : Fields). Holds ordered (take end bytes) x.places) (sym same) (set_holds ordered (take end bytes) s.places g p (new g refl) old)

    fitting_holds : (o : Option Field) (codes : List ℕ) (type : Tree) (p q : ℕ) → spell type [] ≡ codes → Own o codes → Value ordered bytes 0 end type p (Ok q) → Fitting ordered (take end bytes) s o (start o p) q (Ok t)
        → Holds ordered (take end bytes) t.places
    fitting_holds None codes type p q spells own v (inl h) = noted_holds None p q (ok_inj t _ h.1) (λ g e. none_some g e)
    fitting_holds (Some f) codes type p q spells own v (inl h) =
        let held = leaf_held f p q (own_leaf f codes type spells own v) h.0 in
        noted_holds (Some f) (start (Some f) p) q (ok_inj t _ h.1) (λ g e. subst (λ (x : Field). Held ordered (take end bytes) x (start (Some f) p)) (some_once f g e) held)
    fitting_holds None codes type p q spells own v (inr h) = never t _ h.1
    fitting_holds (Some f) codes type p q spells own v (inr h) = never t _ h.1

    valued_holds : (o : Option Field) (k p : ℕ) → Own o (codes_at (take end bytes) k) → Valued ordered bytes end s o k p (Ok t) → Holds ordered (take end bytes) t.places
    valued_holds o k p own (type, spells, inl h) = fitting_holds o (codes_at (take end bytes) k) type p h.0 spells own h.1 h.2
    valued_holds o k p own (type, spells, inr h) = never t h.0 h.2

    after_code_holds : (p c : ℕ) → AfterCode ordered bytes end s p c (Ok t) → Holds ordered (take end bytes) t.places
    after_code_holds p c (inl h) = valued_holds (known c) p h.0 (kinded_tells (take end bytes) (known c) p h.0 h.1).1 h.2
    after_code_holds p c (inr h) = never t h.0 h.2

    after_padding_holds : (p : ℕ) → AfterPadding ordered bytes end s p (Ok t) → Holds ordered (take end bytes) t.places
    after_padding_holds p (inl h) = after_code_holds (p + 1) h.0 h.2
    after_padding_holds p (inr h) = never t h.0 h.2

    one_holds : OneField ordered bytes end s (Ok t) → Holds ordered (take end bytes) t.places
    one_holds (inl h) = after_padding_holds h.0 h.2
    one_holds (inr h) = never t h.0 h.2

  all_hold : {s : Fields} {r : Result Fields Flaw} → AllFields ordered bytes end s r → Holds ordered (take end bytes) s.places → IfOk r (λ t. Holds ordered (take end bytes) t.places)
  all_hold (no_more l) old = old
  all_hold (bad_one l h) old = tt
  all_hold (one_more {s} t l h rest) old = all_hold rest (one_holds s t old h)

  padded_same : (s t : Fields) → Padded bytes end s (Ok t) → t ≡ s
  padded_same s t (inl h) = ok_inj t s h.2
  padded_same s t (inr h) = never t h.0 h.2

  -- of a header that is well
  pub header_holds : (t : Fields) → Header ordered bytes end (Ok t) → Holds ordered (take end bytes) t.places
  header_holds t (inl (l, inl h)) =
      subst (λ (x : Fields). Holds ordered (take end bytes) x.places) (sym (padded_same h.0 t h.2)) (all_hold h.1 (λ f p e. absurd (nothing f p e)))
  header_holds t (inl (l, inr h)) = never t h.0 h.2
  header_holds t (inr h) = never t _ h.1
