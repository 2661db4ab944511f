-- Elements one after the other, a separator before each.
use Rattle.std.proofs.Common.{◌≡◌, ℕ, ◌<◌, ◌≤◌, Bool, false, List, [], ◌∷◌, ◌++◌, length, Some, None, Decides, Option, sym, ap, ◌∙◌, arith, Bor, MatchOption, ◌≢◌}
use Rattle.std.specs.List.{AllByRecursion}
use Rattle.std.proofs.lemmas.Bool.{false≢true}
use Rattle.std.proofs.lemmas.Bool.Decides.{Decides-like}
use Rattle.std.proofs.lemmas.List.{length-append, nil_from_length}
use Rattle.text.specs.Grammar.{Holds, Element, led, joined, Led, Dotted}
use Rattle.text.specs.Scans.{Ended, Follows, After, Remains, AfterLed}
use Rattle.text.specs.declared.element.Kind.{Kind}
use Rattle.text.proofs.Splits.{all_held, one_way}

module _ (separator : ℕ) (kind : Kind) where
  -- led bytes are a separator, an element and bytes that are led or empty
  record Parts (bytes : List ℕ) : Type 0 where
    element : List ℕ
    valid : Element kind element
    others : List (List ℕ)
    all : AllByRecursion (Element kind) others
    spells : separator ∷ (element ++ led separator others) ≡ bytes

  parts_of : (bytes : List ℕ) (es : List (List ℕ)) → 1 ≤ length es → AllByRecursion (Element kind) es → led separator es ≡ bytes → Parts bytes
  parts_of bytes [] some all e = absurd (omega arith)
  parts_of bytes (x ∷ xs) some all e = record { element = x; valid = all.0; others = xs; all = all.1; spells = e }

  parts : (bytes : List ℕ) → Led separator kind bytes → Parts bytes
  parts bytes l = parts_of bytes l.elements l.some l.valid l.spells

  module _ (apart : Holds kind separator → ⊥) where
    ended_led : (es : List (List ℕ)) → Ended kind (led separator es)
    ended_led [] = tt
    ended_led (e ∷ es) = apart

    led_again : (es : List (List ℕ)) (rest : List ℕ) → AllByRecursion (Element kind) es → led separator es ≡ rest → 0 < length rest → Led separator kind rest
    led_again [] rest all e l = absurd (omega (arith, ap length e))
    led_again (x ∷ xs) rest all e l = record { elements = x ∷ xs; some = omega arith; valid = all; spells = e }

    remains : (bytes more rest : List ℕ) → bytes ≡ separator ∷ more → Follows kind more rest → Remains separator kind bytes rest
    remains bytes more rest e f =
        let spells : separator ∷ (f.element ++ rest) ≡ bytes = ap (λ (t : List ℕ). separator ∷ t) f.spells ∙ sym e in
        record {
          shorter = omega (arith, ap length spells, length-append f.element rest);
          last = λ n. record {
            elements = f.element ∷ [];
            some = omega arith;
            valid = (f.valid, tt);
            spells = ap (λ (t : List ℕ). separator ∷ (f.element ++ t)) (sym (nil_from_length rest n)) ∙ spells;
          };
          more = λ l. record {
            elements = f.element ∷ l.elements;
            some = omega arith;
            valid = (f.valid, l.valid);
            spells = ap (λ (t : List ℕ). separator ∷ (f.element ++ t)) l.spells ∙ spells;
          };
          left = λ n l.
              let p = parts bytes l in
              let whole : separator ∷ (p.element ++ led separator p.others) ≡ separator ∷ (f.element ++ rest) = p.spells ∙ sym spells in
              let tail : p.element ++ led separator p.others ≡ f.element ++ rest = cc in
              let both = one_way kind p.element f.element (led separator p.others) rest (all_held kind p.element p.valid) (all_held kind f.element f.valid) (ended_led p.others) f.ended tail in
              led_again p.others rest p.all both.1 n;
        }

  pub no_led_empty : (bytes : List ℕ) → length bytes ≡ 0 → Led separator kind bytes → ⊥
  no_led_empty bytes n l = let e = ap length (parts bytes l).spells in omega arith

  pub no_led : (bytes : List ℕ) → ((more : List ℕ) → bytes ≢ separator ∷ more) → Led separator kind bytes → ⊥
  no_led bytes ne l = let p = parts bytes l in ne (p.element ++ led separator p.others) (sym p.spells)

  pub no_led_element : (bytes more : List ℕ) → bytes ≡ separator ∷ more → ((element rest : List ℕ) → Element kind element → element ++ rest ≡ more → ⊥) → Led separator kind bytes → ⊥
  no_led_element bytes more e none l =
      let p = parts bytes l in
      let whole : separator ∷ (p.element ++ led separator p.others) ≡ separator ∷ more = p.spells ∙ e in
      let tail : p.element ++ led separator p.others ≡ more = cc in
      none p.element (led separator p.others) p.valid tail

  pub after_led : (Holds kind separator → ⊥) → (bytes more : List ℕ) (r : Option (Bor (List ℕ))) → bytes ≡ separator ∷ more → After kind more r → AfterLed separator kind bytes r
  after_led apart bytes more None e a = no_led_element bytes more e a
  after_led apart bytes more (Some rest) e a = remains apart bytes more rest.now e a

dot_apart : (kind : Kind) → Holds kind 46 → ⊥
dot_apart kind h = grind arith

module _ (kind : Kind) (bytes rest : List ℕ) (f : Follows kind bytes rest) where
  dotted : Led 46 kind rest → Dotted kind bytes
  dotted l = record {
    elements = f.element ∷ l.elements;
    some = omega arith;
    valid = (f.valid, l.valid);
    spells = ap (λ (t : List ℕ). f.element ++ t) l.spells ∙ f.spells;
  }

  others_of : (es : List (List ℕ)) → 2 ≤ length es → AllByRecursion (Element kind) es → joined 46 es ≡ bytes → Led 46 kind rest
  others_of [] some all e = absurd (omega arith)
  others_of (x ∷ xs) some all e =
      let both = one_way kind x f.element (led 46 xs) rest (all_held kind x all.0) (all_held kind f.element f.valid) (ended_led 46 kind (dot_apart kind) xs) f.ended (e ∙ sym f.spells) in
      record { elements = xs; some = omega arith; valid = all.1; spells = both.1 }

  pub others : Dotted kind bytes → Led 46 kind rest
  others d = others_of d.elements d.some d.valid d.spells

none_dotted : (kind : Kind) (bytes : List ℕ) (es : List (List ℕ)) → After kind bytes None → 2 ≤ length es → AllByRecursion (Element kind) es → joined 46 es ≡ bytes → ⊥
none_dotted kind bytes [] a some all e = omega arith
none_dotted kind bytes (x ∷ xs) a some all e = a x (led 46 xs) all.0 e

-- what a test of the rest for elements, a `.` before each, tells
pub dotted_by : (kind : Kind) (bytes : List ℕ) (o : Option (Bor (List ℕ))) (r : Bool) {R : Bor (List ℕ) → Type 0} → ((rest : Bor (List ℕ)) → R rest → Decides r (Led 46 kind rest.now)) → After kind bytes o → MatchOption o (r ≡ false) R → Decides r (Dotted kind bytes)
dotted_by kind bytes None r f a e =
    (λ t. absurd (false≢true (sym e ∙ t)), λ d. absurd (none_dotted kind bytes d.elements a d.some d.valid d.spells))
dotted_by kind bytes (Some rest) r f a d =
    Decides-like r (dotted kind bytes rest.now a) (others kind bytes rest.now a) (f rest d)
