-- "Both sides of the line": the cases marked *, in the order of the paper, and what each of them says. Octets are joined by ∷ and end in [];
-- 0x begins a number in hexadecimal. Assumes nothing.
use Rattle.std.specs.Prelude.{◌≡◌, true, List, [], ◌∷◌, ◌++◌, ℕ, ◌/◌, ◌%◌, replicate}
use Rattle.refusals.specs.Refusals.{refuse}
use Rattle.crc.specs.Crc.{crc_of}
use Rattle.frame.specs.declared.Frame.{Frame}
use Rattle.frame.specs.declared.Pointer.TheVariants.{Offset, NoStart}
use Rattle.frame.specs.Kinds.{counter_follows}
use Rattle.frame.specs.Header.{frame_of, pointer_meaning}
use Rattle.frame.specs.Refusals.{examined_header}
use Rattle.packet.specs.declared.Look.TheVariants.{Good, Bad}
use Rattle.packet.specs.declared.Packet.{Packet}
use Rattle.packet.specs.Kinds.{count_follows}
use Rattle.packet.specs.Header.{packet_of, look_of}
use Rattle.transport.specs.Length.{good_length, need, rest}

infix 70 CRC-of◌is◌ L=◌N=◌ L=◌last-packet◌ frame-header◌version◌spacecraft◌channel◌ pointer◌refused-by◌
pub data Case : Type 0 where
  CRC-of◌is◌ : List ℕ → ℕ → Case
  L=◌N=◌ : ℕ → ℕ → Case
  L=◌last-packet◌ : ℕ → ℕ → Case
  frame-header◌version◌spacecraft◌channel◌ : List ℕ → ℕ → ℕ → ℕ → Case
  pointer◌good : ℕ → Case
  pointer◌refused-by◌ : ℕ → ℕ → Case
  pointer◌no-start : ℕ → Case
  count◌then◌follows : ℕ → ℕ → Case
  counter◌then◌follows : ℕ → ℕ → Case
  application◌length◌good : ℕ → ℕ → Case
  application◌length◌bad : ℕ → ℕ → Case

unfoldable pub cases : List Case
cases =
    -- "CRC of no octets FFFF; of FF: FF00; of FF FF: 0000."
    (CRC-of [] is 0xffff)
    ∷ (CRC-of (0xff ∷ []) is 0xff00)
    ∷ (CRC-of (0xff ∷ 0xff ∷ []) is 0x0000)
    -- "L = 8: N = 1. L = 65,440: N = 1. L = 65,448: N = 2, last packet 1 octet."
    ∷ (L= 8 N= 1)
    ∷ (L= 65440 N= 1)
    ∷ (L= 65448 N= 2)
    ∷ (L= 65448 last-packet 1)
    -- "Frame header 40 42: version 1, spacecraft 1, channel 2."
    ∷ (frame-header (0x40 ∷ 0x42 ∷ []) version 1 spacecraft 1 channel 2)
    -- "Pointer 883 good, 884 refused by 9, 2047 no start."
    ∷ (pointer 883 good)
    ∷ (pointer 884 refused-by 9)
    ∷ (pointer 2047 no-start)
    -- "Count 16,383 then 0 follows. Counter 16,777,215 then 0 follows."
    ∷ (count 16383 then 0 follows)
    ∷ (counter 16777215 then 0 follows)
    -- "Length 8191 good, 8192 bad; application 2015 with length 1 bad, 2047 with 0 good." The first two are of application 0.
    ∷ (application 0 length 8191 good)
    ∷ (application 0 length 8192 bad)
    ∷ (application 2015 length 1 bad)
    ∷ (application 2047 length 0 good)
    ∷ []

-- a frame's header with nothing wrong in it, unless the pointer is
abbrev pointing : ℕ → Frame
pointing p = record { version = 1; spacecraft = 1; channel = record { 0 = 0 }; counter = record { 0 = 0 }; pointer = p }

-- the six octets of a packet's header with this application and this length, and nothing else set
abbrev headed : ℕ → ℕ → List ℕ
headed a n = a / 256 ∷ a % 256 ∷ 0 ∷ 0 ∷ n / 256 ∷ n % 256 ∷ []

abbrev Says : ℕ → ℕ → Packet → Type 0
Says a n p = (p.application.0 ≡ a) × (p.length ≡ n)

-- what each case says
abbrev pub Right : Case → Type 0
Right (CRC-of xs is c) = crc_of xs ≡ c
Right (L= l N= n) = (good_length l ≡ true) × (need l ≡ n)
Right (L= l last-packet n) = rest l ≡ n
-- the six octets behind are zero
Right (frame-header xs version v spacecraft s channel c) =
    frame_of (xs ++ replicate 6 0)
    ≡ record { version = v; spacecraft = s; channel = record { 0 = c }; counter = record { 0 = 0 }; pointer = 0 }
Right (pointer p good) = pointer_meaning p ≡ Offset p
-- of spacecraft 1, with channel 0 watched
Right (pointer p refused-by k) = examined_header 1 (record { 0 = 0 } ∷ []) (pointing p) ≡ refuse k
Right (pointer p no-start) = pointer_meaning p ≡ NoStart
Right (count a then b follows) = count_follows (record { 0 = a }) (record { 0 = b }) ≡ true
Right (counter a then b follows) = counter_follows (record { 0 = a }) (record { 0 = b }) ≡ true
Right (application a length n good) =
    Says a n (packet_of (headed a n)) × (look_of (headed a n) ≡ Good (packet_of (headed a n)))
Right (application a length n bad) = Says a n (packet_of (headed a n)) × (look_of (headed a n) ≡ Bad)

-- each of some cases is right
abbrev pub Every : List Case → Type 0
Every [] = Unit
Every (c ∷ cs) = Right c × Every cs
