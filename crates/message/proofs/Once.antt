-- A message comes to one result.
use Rattle.std.proofs.Common.{ℕ, ◌+◌, List, length, Result, sym, ap, ◌∙◌, inl, inr}
use Rattle.items.specs.declared.Span.{Span}
use Rattle.items.specs.declared.fault.Flaw.{Flaw}
use Rattle.items.specs.declared.fault.Part.{Part}
use Rattle.items.proofs.Once.{One, is_one, provided_one, then_one}
use Rattle.values.specs.Values.{Read}
use Rattle.values.proofs.Once.{values_one}
use Rattle.frame.specs.Frames.{frame_at}
use Rattle.frame.specs.Kinds.{ordered}
use Rattle.fields.proofs.Once.{header_once}
use Rattle.message.specs.Messages.{placed, In, Decided}

in_one : {X : Type 0} (p : Part) {A : Result X Flaw → Type 0} → One A → One (In p A)
in_one p one r q (x, h, e) (y, k, f) = e ∙ ap (placed p) (one x y h k) ∙ sym f

-- values of the types of a signature that is there
read_one : (order : List ℕ → List ℕ) (bytes : List ℕ) (codes : Span) (at end : ℕ) → One (Read order bytes codes at end)
read_one order bytes codes at end r q (inl (l, inl (s, h))) (inl (m, inl (u, k))) =
    values_one order bytes (h s.signature.types s.signature.spells) q (k s.signature.types s.signature.spells)
read_one order bytes codes at end r q (inl (l, inl (s, h))) (inl (m, inr k)) = absurd (k.0 s)
read_one order bytes codes at end r q (inl (l, inl h)) (inr k) = absurd (k.0 l)
read_one order bytes codes at end r q (inl (l, inr h)) (inl (m, inl k)) = absurd (h.0 k.0)
read_one order bytes codes at end r q (inl (l, inr h)) (inl (m, inr k)) = h.1 ∙ sym k.1
read_one order bytes codes at end r q (inl (l, inr h)) (inr k) = absurd (k.0 l)
read_one order bytes codes at end r q (inr h) (inl (m, k)) = absurd (h.0 m)
read_one order bytes codes at end r q (inr h) (inr k) = h.1 ∙ sym k.1

pub decided : Decided
decided limit bytes =
    then_one
    (in_one _ (provided_one (provided_one (provided_one (provided_one (provided_one (provided_one (is_one (frame_at bytes)))))))))
    (λ f. then_one
    (in_one _ (header_once (ordered f.order) bytes (16 + f.fields)))
    (λ s. then_one
    (in_one _ (read_one (ordered f.order) bytes _ _ (length bytes)))
    (λ q. then_one (in_one _ (provided_one (is_one q))) (λ z. in_one _ (provided_one (is_one (record { frame = f; fields = s })))))))
