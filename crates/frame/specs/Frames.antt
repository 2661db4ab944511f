-- The frame of a message.
use Rattle.std.specs.Prelude.{◌≡◌, ℕ, ◌+◌, ◌≤◌, cond, List, length, Result, ◌==◌, ◌≢◌, slice_index}
use Rattle.items.specs.declared.fault.Flaw.{Flaw}
use Rattle.items.specs.declared.fault.Cause.TheVariants.{TooShort, ByteOrder, NoType, Version, Length, NoSerial}
use Rattle.items.specs.Faults.{Is, Provided}
use Rattle.items.specs.Items.{aligned, number_at}
use Rattle.frame.specs.declared.Frame.{Frame}
use Rattle.frame.specs.declared.kinds.Order.{Order}
use Rattle.frame.specs.declared.kinds.Order.TheVariants.{Little, Big}
use Rattle.frame.specs.Firsts.{frame_size}
use Rattle.frame.specs.Kinds.{mark, ordered, kind_at}

module _ (bytes : List ℕ) where
  -- the order of a mark; little endian where there is none
  abbrev pub order_at : Order
  order_at = cond (slice_index bytes 0 == 66) Big Little

  abbrev pub number_in : ℕ → ℕ
  number_in p = number_at bytes (ordered order_at) p

  -- what the first 16 bytes say
  abbrev pub frame_at : Frame
  frame_at = record {
    order = order_at;
    kind = kind_at (slice_index bytes 1);
    flags = slice_index bytes 2;
    body = number_in 4;
    serial = number_in 8;
    fields = number_in 12;
  }

  -- the first byte is the mark of an order
  abbrev pub Marked : Type 0
  Marked = (o : Order) × (mark o ≡ slice_index bytes 0)

  -- the frame is whole, the order, the type and the version are well, and K holds of what comes of the rest
  abbrev pub Begun : (Result Frame Flaw → Type 0) → Result Frame Flaw → Type 0
  Begun K =
      Provided (frame_size ≤ length bytes) TooShort 0
      (Provided Marked ByteOrder 0
      (Provided (slice_index bytes 1 ≢ 0) NoType 1
      (Provided (slice_index bytes 3 ≡ 1) Version 3 K)))

-- where the body begins
abbrev pub body_start : Frame → ℕ
body_start f = aligned 8 (frame_size + f.fields)

-- the frame of a message of at most so many bytes, or its flaw
abbrev pub Framed : ℕ → List ℕ → Result Frame Flaw → Type 0
Framed limit bytes =
    Begun bytes
    (Provided ((length bytes ≤ limit) × (length bytes ≡ body_start (frame_at bytes) + (frame_at bytes).body)) Length 4
    (Provided ((frame_at bytes).serial ≢ 0) NoSerial 8
    (Is (frame_at bytes))))
