-- Where reading goes on in a frame, case by case, so that no proof has to open the definitions. Assumes nothing.
use Rattle.std.specs.Prelude.{Ok}
use mathlib.Core.Path.{◌≡◌, refl, sym, ap, ◌∙◌}
use mathlib.Core.Bool.{Bool, true, false, true≢false}
use mathlib.Core.Logic.{◌⊎◌, inl, inr, ⊎_elim}
use mathlib.Core.List.{List, [], ◌∷◌, ◌++◌}
use Prim.Native.Nat.{ℕ, ◌+◌, ◌-◌, ◌%◌, ◌≤◌, ◌<◌}
use native.Mathlib.Omega.{arith}
use lib.ListN.{length, drop, length-drop, drop_of_length-le}
use Rattle.octets.specs.Choice.{Decides}
use Rattle.octets.specs.Choice.Decides.{fails}
use Rattle.octets.proofs.Decide.{decides-same, decides-by, decides-self, decides_eqb, decides-leb, decides-then, decides_not}
use Rattle.frame.specs.declared.Accepted.{Accepted}
use Rattle.frame.specs.declared.Channel.{Channel}
use Rattle.frame.specs.declared.Counter.{Counter}
use Rattle.frame.specs.declared.Pointer.{Pointer}
use Rattle.frame.specs.declared.Pointer.TheVariants.{Offset, NoStart, Refused}
use Rattle.frame.specs.Header.{derandomised, frame_of, pointer_meaning}
use Rattle.frame.specs.Refusals.{examined}
use Rattle.frame.proofs.Pointers.{below-offset, no_start, Means, means}
use Rattle.frame.proofs.Answers.{good-header}
use Rattle.frame.proofs.Counting.{follows_next, next-follows}
use Rattle.packet.specs.declared.Packet.{Packet}
use Rattle.packet.specs.declared.Look.{Look}
use Rattle.packet.specs.declared.Look.TheVariants.{Short, Bad, Good}
use Rattle.packet.specs.Header.{look_of, size_of}
use Rattle.state.specs.declared.Desk.{Desk}
use Rattle.state.specs.declared.Station.{Station}
use Rattle.state.specs.Slots.{desk_at}
use Rattle.events.specs.Event.{Event, bare}
use Rattle.zone.specs.Zone.{Reading, from_pointer, agrees, carried_by, reading}
use Rattle.zone.specs.Walk.{gap, held_at, reading_of}
use Rattle.zone.specs.Contract.{start_at}

-- "reading begins at the pointer, or nowhere if it is 2047": nowhere is the zone's end
pub from_start : (q : Pointer) (zone : List ℕ) → length zone ≡ 884 → from_pointer q zone ≡ drop (start_at q) zone
unfolding from_pointer start_at
from_start (Offset p) zone l = refl
from_start NoStart zone l = sym (drop_of_length-le zone {i = 884} (omega arith))
from_start Refused zone l = sym (drop_of_length-le zone {i = 884} (omega arith))

pub from-few : (q : Pointer) (zone : List ℕ) → length (from_pointer q zone) ≤ length zone
unfolding from_pointer
from-few (Offset p) zone = omega (arith, length-drop p zone)
from-few NoStart zone = omega arith
from-few Refused zone = omega arith

-- and a zone has nothing behind place 2047
pub from_place : (p : ℕ) (zone : List ℕ) → length zone ≡ 884 → (p < 884) ⊎ (p ≡ 2047) → from_pointer (pointer_meaning p) zone ≡ drop p zone
unfolding from_pointer
from_place p zone l (inl h) = ap (λ (q : Pointer). from_pointer q zone) (below-offset p h)
from_place p zone l (inr e) =
    ap (λ (q : Pointer). from_pointer q zone) (no_start p e) ∙ sym (drop_of_length-le zone {i = p} (omega arith))

-- what a pointer means is a place of the zone, or its end
pub meaning-within : (p : ℕ) → start_at (pointer_meaning p) ≤ 884
unfolding start_at
meaning-within p = by (pointer_meaning p) (means p)
  where
    by : (m : Pointer) → Means p m → start_at m ≤ 884
    by (Offset q) (same, low) = omega arith
    by NoStart e = omega arith
    by Refused e = omega arith

-- an accepted frame is read from within its zone
pub start-within : (craft : ℕ) (watched : List Channel) (f : List ℕ) (a : Accepted) → examined craft watched f ≡ Ok a
    → start_at a.pointer ≤ 884
start-within craft watched f a e = rw (good-header craft watched f a e).pointer (meaning-within (frame_of (derandomised f)).pointer)

-- "the pointer must be r if r is below 884, and 2047 otherwise", in words
abbrev pub Agrees : ℕ → ℕ → Type 0
Agrees r p = ((r < 884) × (p ≡ r)) ⊎ ((884 ≤ r) × (p ≡ 2047))

pub agrees-exactly : (r p : ℕ) → Decides (Agrees r p) (agrees r (pointer_meaning p))
unfolding agrees
agrees-exactly r p = by (pointer_meaning p) (means p)
  where
    by : (m : Pointer) → Means p m → Decides (Agrees r p) (agrees r m)
    by (Offset q) (same, low) =
        decides-same (λ e. inl (omega arith, omega arith)) (⊎_elim (λ a. omega (arith, a.1)) (λ a. omega (arith, a.1))) (decides_eqb q r)
    by NoStart e = decides-same (λ l. inr (l, e)) (⊎_elim (λ a. omega (arith, a.0, a.1)) (λ a. a.0)) (decides-leb 884 r)
    by Refused (from, other) = fails (⊎_elim (λ a. omega (arith, a.0, a.1)) (λ a. other a.1))

-- reading at the pointer, after these events
abbrev pub at_pointer : List Event → List ℕ → Pointer → Reading
at_pointer es zone p = record { events = es; octets = from_pointer p zone }

-- the held octets and the zone, read as one stretch
abbrev pub onward : List ℕ → List ℕ → Reading
onward held zone = record { events = []; octets = held ++ zone }

pub reading-none : (zone : List ℕ) (p : Pointer) → reading [] zone p ≡ at_pointer [] zone p
unfolding reading
reading-none zone p = refl

-- pointer 0 is the zone's start
pub reading-first : (zone : List ℕ) → reading [] zone (pointer_meaning 0) ≡ onward [] zone
unfolding from_pointer
reading-first zone = reading-none zone (pointer_meaning 0) ∙ ap (at_pointer [] zone) (below-offset 0 (omega arith))

reading-held : (held zone : List ℕ) (p : Pointer) → 0 < length held → {l : Look} → look_of (held ++ zone) ≡ l
    → reading held zone p ≡ carried_by l held zone p
unfolding reading
reading-held [] zone p some e = absurd (omega arith)
reading-held (x ∷ held) zone p some e = ap (λ (l : Look). carried_by l (x ∷ held) zone p) e

module _ (held zone : List ℕ) (p : Pointer) (some : 0 < length held) where
  pub reading-short : look_of (held ++ zone) ≡ Short → reading held zone p ≡ onward held zone
  unfolding carried_by
  reading-short e = reading-held held zone p some e

  pub reading-bad : look_of (held ++ zone) ≡ Bad → reading held zone p ≡ at_pointer (bare 3 ∷ []) zone p
  unfolding carried_by
  reading-bad e = reading-held held zone p some e

  module _ {h : Packet} (e : look_of (held ++ zone) ≡ Good h) where
    pub reading-on : agrees (size_of h - length held) p ≡ true → reading held zone p ≡ onward held zone
    unfolding carried_by
    reading-on f = reading-held held zone p some e ∙ rw f

    pub reading-dropped : agrees (size_of h - length held) p ≡ false → reading held zone p ≡ at_pointer (bare 2 ∷ []) zone p
    unfolding carried_by
    reading-dropped f = reading-held held zone p some e ∙ rw f

-- every case, with what is known in it
pub data Reads (held zone : List ℕ) (p : Pointer) : Reading → Type 0 where
  afresh : held ≡ [] → Reads held zone p (at_pointer [] zone p)
  too_few : look_of (held ++ zone) ≡ Short → Reads held zone p (onward held zone)
  bad-header : look_of (held ++ zone) ≡ Bad → Reads held zone p (at_pointer (bare 3 ∷ []) zone p)
  goes_on : {h : Packet} → look_of (held ++ zone) ≡ Good h → agrees (size_of h - length held) p ≡ true → Reads held zone p (onward held zone)
  points-off : {h : Packet} → look_of (held ++ zone) ≡ Good h → agrees (size_of h - length held) p ≡ false
      → Reads held zone p (at_pointer (bare 2 ∷ []) zone p)

reads_held : (held zone : List ℕ) (p : Pointer) → 0 < length held → (l : Look) → look_of (held ++ zone) ≡ l → Reads held zone p (reading held zone p)
reads_held held zone p some Short e = rw (reading-short held zone p some e) (too_few e)
reads_held held zone p some Bad e = rw (reading-bad held zone p some e) (bad-header e)
reads_held held zone p some (Good h) e = by (agrees (size_of h - length held) p) refl
  where
    by : (b : Bool) → agrees (size_of h - length held) p ≡ b → Reads held zone p (reading held zone p)
    by true f = rw (reading-on held zone p some e f) (goes_on e f)
    by false f = rw (reading-dropped held zone p some e f) (points-off e f)

pub reads_as : (held zone : List ℕ) (p : Pointer) → Reads held zone p (reading held zone p)
reads_as [] zone p = rw (reading-none zone p) (afresh refl)
reads_as (x ∷ held) zone p = reads_held (x ∷ held) zone p (omega arith) (look_of (x ∷ held ++ zone)) refl

-- "if a frame was seen before and the counter is not the last plus 1 modulo 2^24"
pub gap-exactly : (d : Desk) (c : Counter) → Decides ((d.seen ≡ true) × (c.0 ≡ (d.counter.0 + 1) % 0x1000000 → ⊥)) (gap d c)
unfolding gap
gap-exactly d c =
    decides-then (decides-self d.seen)
    (λ s.
    decides_not
    (decides-by _ (λ e. ap (λ (x : Counter). x.0) (follows_next d.counter c e))
    (λ e q. true≢false (sym (next-follows d.counter c (λ i. record { 0 = q i })) ∙ e))))

-- "event 1, and the held octets are dropped"
module _ (s : Station) (desks zone : List ℕ) (a : Accepted) where
  pub reading-gap : gap (desk_at s a.desk) a.counter ≡ true → reading_of s desks zone a ≡ at_pointer (bare 1 ∷ []) zone a.pointer
  unfolding reading_of
  reading-gap e =
      rw e (ap (λ (r : Reading). record { events = bare 1 ∷ r.events; octets = r.octets }) (reading-none zone a.pointer))

  pub reading-seamless : gap (desk_at s a.desk) a.counter ≡ false
      → reading_of s desks zone a ≡ reading (held_at s desks a.desk) zone a.pointer
  unfolding reading_of
  reading-seamless e = rw e
