-- The first bytes of a message, as its frame has them.
use Rattle.std.proofs.Common.{◌≡◌, ℕ, ◌+◌, ◌≤◌, cond, eqb, List, length, get_or, take, drop, sym, ap, ◌∙◌, add-zero}
use Rattle.order.specs.Numbers.{number}
use Rattle.items.proofs.Spread.{taken}
use Rattle.frame.specs.declared.Frame.{Frame}
use Rattle.frame.specs.declared.kinds.Order.{Order}
use Rattle.frame.specs.declared.kinds.Order.TheVariants.{Little, Big}
use Rattle.frame.specs.Firsts.{four}
use Rattle.frame.specs.Kinds.{mark, ordered}
use Rattle.frame.specs.Frames.{order_at, number_in}

module _ (bytes : List ℕ) (o : Order) (marked : mark o ≡ get_or bytes 0 0) where
  pub order_is : order_at bytes ≡ o
  order_is = elim o as (λ (x : Order). mark x ≡ get_or bytes 0 0 → order_at bytes ≡ x) [
    | Little ↦ λ e. ap (λ (m : ℕ). cond (eqb m 66) Big Little) (sym e)
    | Big ↦ λ e. ap (λ (m : ℕ). cond (eqb m 66) Big Little) (sym e)
  ] marked

  pub number_is : (p n : ℕ) (xs : List ℕ) → p + 4 ≤ length bytes → xs ≡ four bytes p → n ≡ number (ordered o xs) → n ≡ number_in bytes p
  number_is p n xs l f e =
      let there = taken 4 p bytes l in
      e
      ∙ ap (λ (ys : List ℕ). number (ordered o ys)) (f ∙ sym (simp add-zero at there))
      ∙ ap (λ (x : Order). number (ordered x (take 4 (drop p bytes)))) (sym order_is)

pub frames : (f g : Frame) → f.order ≡ g.order → f.kind ≡ g.kind → f.flags ≡ g.flags → f.body ≡ g.body → f.serial ≡ g.serial → f.fields ≡ g.fields → f ≡ g
frames f g a b c d e h = λ i. record { order = a i; kind = b i; flags = c i; body = d i; serial = e i; fields = h i }
