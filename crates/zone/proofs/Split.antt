-- Octets read from their first on, case by case, so that no proof has to open the definition; that the packets are whole and, with what is
-- left or dropped, are the octets; and the packet that is carried on from one zone into the next. Assumes nothing.
use mathlib.Core.Path.{◌≡◌, refl, sym, ap, ◌∙◌}
use mathlib.Core.Bool.{Bool, true, false}
use mathlib.Core.List.{List, [], ◌∷◌, ◌++◌, append_assoc, append-nil, flatten}
use Prim.Native.Nat.{ℕ, zero, suc, ◌+◌, ◌-◌, ◌≤◌, ◌<◌}
use native.Mathlib.Omega.{arith}
use borrow.Author.Tests.{lt-ltb, le-ltb, ltb-true, ltb-false}
use lib.Dec.{ltb}
use lib.ListN.{length, take, drop, get_or, replicate, length-append, length-drop, take-append-drop}
use lib.Seq.{length-take-le, take-take, take-append-add, drop-append-add, take-append_seam, drop-append_seam, get_or-append-add}
use Rattle.octets.proofs.Zero.{blank-at, all_zero-replicate}
use Rattle.packet.specs.declared.Packet.{Packet}
use Rattle.packet.specs.declared.Look.{Look}
use Rattle.packet.specs.declared.Look.TheVariants.{Short, Bad, Good}
use Rattle.packet.specs.Header.{packet_of, size_of, bad, look_of}
use Rattle.packet.proofs.Looks.{look-good, look-tells, look-same, look-append}
use Rattle.state.specs.Sound.{OctetsHeld}
use Rattle.judge.specs.Contract.{Whole}
use Rattle.zone.specs.Zone.{Split, unfinished, broken, behind, split_by, split, Wholes, Unfinished}
use Rattle.zone.specs.Zone.Unfinished.{header, packet}

-- every case, with what is known in it
pub data Splits : List ℕ → Split → Type 0 where
  few : {xs : List ℕ} → look_of xs ≡ Short → Splits xs (unfinished xs)
  part : {xs : List ℕ} {h : Packet} → look_of xs ≡ Good h → length xs < size_of h → Splits xs (unfinished xs)
  spoilt : {xs : List ℕ} → look_of xs ≡ Bad → Splits xs broken
  next : {xs : List ℕ} {h : Packet} {sp : Split} → look_of xs ≡ Good h → size_of h ≤ length xs → Splits (drop (size_of h) xs) sp
      → Splits xs (behind (take (size_of h) xs) sp)

-- by so many packets at most
module _ (xs : List ℕ) where
  look-few : length xs < 6 → look_of xs ≡ Short
  unfolding look_of
  look-few l = rw (lt-ltb (length xs) 6 l)

  by-few : (n : ℕ) → look_of xs ≡ Short → split_by n xs ≡ unfinished xs
  unfolding split_by
  by-few zero e = refl
  by-few (suc n) e = rw (e, split_by)

  by-spoilt : (n : ℕ) → look_of xs ≡ Bad → split_by (suc n) xs ≡ broken
  unfolding split_by
  by-spoilt n e = rw (e, split_by)

  module _ {h : Packet} (e : look_of xs ≡ Good h) where
    by_part : (n : ℕ) → length xs < size_of h → split_by n xs ≡ unfinished xs
    unfolding split_by
    by_part zero l = refl
    by_part (suc n) l = rw (e, split_by, lt-ltb (length xs) (size_of h) l)

    by_next : (n : ℕ) → size_of h ≤ length xs → split_by (suc n) xs ≡ behind (take (size_of h) xs) (split_by n (drop (size_of h) xs))
    unfolding split_by
    by_next n l = rw (e, split_by, le-ltb (length xs) (size_of h) l)

-- one packet off, if there is one
splits-next : (n : ℕ) (xs : List ℕ)
    → ((h : Packet) → size_of h ≤ length xs → 7 ≤ size_of h → Splits (drop (size_of h) xs) (split_by n (drop (size_of h) xs)))
    → Splits xs (split_by (suc n) xs)
splits-next n xs rest = by (look_of xs) refl
  where
    good : (h : Packet) → look_of xs ≡ Good h → (b : Bool) → ltb (length xs) (size_of h) ≡ b → Splits xs (split_by (suc n) xs)
    good h e true l =
        let m = ltb-true (length xs) (size_of h) l in
        rw (by_part xs e (suc n) m) (part e m)
    good h e false l =
        let m = ltb-false (length xs) (size_of h) l in
        rw (by_next xs e n m) (next e m (rest h m (look-good xs h e).smallest))

    by : (l : Look) → look_of xs ≡ l → Splits xs (split_by (suc n) xs)
    by Short e = rw (by-few xs (suc n) e) (few e)
    by Bad e = rw (by-spoilt xs n e) (spoilt e)
    by (Good h) e = good h e (ltb (length xs) (size_of h)) refl

splits-by : (n : ℕ) (xs : List ℕ) → length xs ≤ n → Splits xs (split_by n xs)
splits-by zero xs m =
    let e = look-few xs (omega arith) in
    rw (by-few xs 0 e) (few e)
splits-by (suc n) xs m =
    splits-next n xs (λ h l seven. splits-by n (drop (size_of h) xs) (omega (arith, length-drop (size_of h) xs)))

pub splits-as : (xs : List ℕ) → Splits xs (split xs)
unfolding split
splits-as xs = splits-by (length xs) xs (omega arith)

-- the outcome is one: as many packets as there are octets are enough
splits-same : {xs : List ℕ} {sp : Split} → Splits xs sp → (n : ℕ) → length xs ≤ n → split_by n xs ≡ sp
splits-same {xs} (few e) n m = by-few xs n e
splits-same {xs} (part e l) n m = by_part xs e n l
splits-same {xs} (spoilt e) zero m = absurd (omega (arith, (look-tells xs e).0))
splits-same {xs} (spoilt e) (suc n) m = by-spoilt xs n e
splits-same {xs} (next e l t) zero m = absurd (omega arith)
splits-same {xs} (next {h} e l t) (suc n) m =
    by_next xs e n l
    ∙ ap (behind (take (size_of h) xs)) (splits-same t n (omega (arith, (look-good xs h e).smallest, length-drop (size_of h) xs)))

pub split-is : {xs : List ℕ} {sp : Split} → Splits xs sp → split xs ≡ sp
unfolding split
split-is {xs} t = splits-same t (length xs) (omega arith)

-- reading on from some octets, by what stands at their start
module _ (xs : List ℕ) where
  pub split-short : look_of xs ≡ Short → split xs ≡ unfinished xs
  split-short e = split-is (few e)

  pub split-bad : look_of xs ≡ Bad → split xs ≡ broken
  split-bad e = split-is (spoilt e)

  module _ {h : Packet} (e : look_of xs ≡ Good h) where
    pub split-part : length xs < size_of h → split xs ≡ unfinished xs
    split-part l = split-is (part e l)

    pub split-whole : size_of h ≤ length xs → split xs ≡ behind (take (size_of h) xs) (split (drop (size_of h) xs))
    split-whole l = split-is (next e l (splits-as (drop (size_of h) xs)))

-- the packet that a good header begins
pub packet-whole : (xs : List ℕ) {h : Packet} → look_of xs ≡ Good h → size_of h ≤ length xs → Whole (take (size_of h) xs)
packet-whole xs {h} e l =
    let g = look-good xs h e in
    let p = take (size_of h) xs in
    let n : length p ≡ size_of h = length-take-le (size_of h) xs l in
    let same : look_of p ≡ Good h = look-same p xs (omega (arith, g.smallest)) g.six (take-take 6 (size_of h) xs (omega arith)) ∙ e in
    let is : h ≡ packet_of p = (look-good p h same).is in
    record { good = same ∙ ap Good is; all = n ∙ ap size_of is }

pub packet-header : (xs : List ℕ) {h : Packet} → look_of xs ≡ Good h → size_of h ≤ length xs → h ≡ packet_of (take (size_of h) xs)
packet-header xs {h} e l =
    let g = look-good xs h e in
    let n : length (take (size_of h) xs) ≡ size_of h = length-take-le (size_of h) xs l in
    (look-good (take (size_of h) xs) h (look-same (take (size_of h) xs) xs (omega (arith, g.smallest)) g.six (take-take 6 (size_of h) xs (omega arith)) ∙ e)).is

splits-wholes : {xs : List ℕ} {sp : Split} → Splits xs sp → Wholes sp.packets
splits-wholes (few e) = tt
splits-wholes (part e l) = tt
splits-wholes (spoilt e) = tt
splits-wholes {xs} (next e l t) = (packet-whole xs e l, splits-wholes t)

splits-left : {xs : List ℕ} {sp : Split} → Splits xs sp → Unfinished sp.left
splits-left {xs} (few e) = header (look-tells xs e)
splits-left (part e l) = packet e l
splits-left (spoilt e) = header (omega arith)
splits-left (next e l t) = splits-left t

-- the packets one after the other, then what is left, or what was dropped from a bad header on
pub data Cuts (xs : List ℕ) (sp : Split) : Type 0 where
  at-end : sp.bad ≡ false → flatten sp.packets ++ sp.left ≡ xs → Cuts xs sp
  at-bad : sp.bad ≡ true → sp.left ≡ [] → (rest : List ℕ) → look_of rest ≡ Bad → flatten sp.packets ++ rest ≡ xs → Cuts xs sp

cuts-next : (n : ℕ) (xs : List ℕ) {sp : Split} → Cuts (drop n xs) sp → Cuts xs (behind (take n xs) sp)
unfolding flatten
cuts-next n xs {sp} (at-end b e) =
    at-end b (append_assoc (take n xs) (flatten sp.packets) sp.left ∙ ap (λ (r : List ℕ). take n xs ++ r) e ∙ take-append-drop n xs)
cuts-next n xs {sp} (at-bad b l rest q e) =
    at-bad b l rest q (append_assoc (take n xs) (flatten sp.packets) rest ∙ ap (λ (r : List ℕ). take n xs ++ r) e ∙ take-append-drop n xs)

splits-cuts : {xs : List ℕ} {sp : Split} → Splits xs sp → Cuts xs sp
unfolding flatten
splits-cuts (few e) = at-end refl refl
splits-cuts (part e l) = at-end refl refl
splits-cuts {xs} (spoilt e) = at-bad refl refl xs e refl
splits-cuts {xs} (next {h} e l t) = cuts-next (size_of h) xs (splits-cuts t)

module _ (xs : List ℕ) where
  pub split-wholes : Wholes (split xs).packets
  split-wholes = splits-wholes (splits-as xs)

  pub split-left : Unfinished (split xs).left
  split-left = splits-left (splits-as xs)

  pub split-cuts : Cuts xs (split xs)
  split-cuts = splits-cuts (splits-as xs)

-- what is unfinished gives no packet
pub split-unfinished : {xs : List ℕ} → Unfinished xs → split xs ≡ unfinished xs
split-unfinished {xs} (header l) = split-short xs (look-few xs l)
split-unfinished {xs} (packet e l) = split-part xs e l

-- a whole packet in front is cut off
cut-first : (p ys : List ℕ) → Whole p → split (p ++ ys) ≡ behind p (split ys)
cut-first p ys w =
    let g = look-good p (packet_of p) w.good in
    let e : look_of (p ++ ys) ≡ Good (packet_of p) = look-append p ys g.six ∙ w.good in
    split-whole (p ++ ys) e (omega (arith, w.all, length-append p ys))
    ∙ rw (← w.all, take-append_seam p ys, drop-append_seam p ys)

-- one whole packet
pub split_one : {p : List ℕ} → Whole p → split p ≡ behind p (unfinished [])
split_one {p} w = ap split (sym (append-nil p)) ∙ cut-first p [] w ∙ ap (behind p) (split-unfinished (header (omega arith)))

-- and so are all: there is one way to cut octets into whole packets and what gives none
pub cut_all : (ps : List (List ℕ)) (rest : List ℕ) → Wholes ps
    → split (flatten ps ++ rest) ≡ record { packets = ps ++ (split rest).packets; bad = (split rest).bad; left = (split rest).left }
unfolding flatten
cut_all [] rest w = refl
cut_all (p ∷ ps) rest w =
    ap split (append_assoc p (flatten ps) rest) ∙ cut-first p (flatten ps ++ rest) w.0 ∙ ap (behind p) (cut_all ps rest w.1)

-- "each desk holds 0 to 8,197 octets"
pub unfinished-few : {xs : List ℕ} → Unfinished xs → length xs ≤ 8197
unfinished-few (header l) = omega arith
unfinished-few {xs} (packet {h} e l) = omega (arith, (look-good xs h e).largest)

-- "zeros after them"
zeros-after : (xs : List ℕ) (n i : ℕ) → length xs ≤ i → get_or (xs ++ replicate n 0) i 0 ≡ 0
zeros-after xs n i l =
    let k : length xs + (i - length xs) ≡ i = omega arith in
    ap (λ (j : ℕ). get_or (xs ++ replicate n 0) j 0) (sym k) ∙ get_or-append-add xs (replicate n 0) (i - length xs) 0
    ∙ blank-at (replicate n 0) (i - length xs) (all_zero-replicate n)

-- what is left, put on a desk with zeros after it
pub unfinished-held : {xs : List ℕ} (n : ℕ) → Unfinished xs → OctetsHeld (length xs) (xs ++ replicate n 0)
unfinished-held {xs} n (header l) = record { zeros = zeros-after xs n; header = λ m. absurd (omega arith) }
unfinished-held {xs} n (packet {h} e l) =
    record {
      zeros = zeros-after xs n;
      header =
          λ m.
          let g = look-good (xs ++ replicate n 0) h (look-append xs (replicate n 0) m ∙ e) in
          rw (← g.is) (g.good, l);
    }

-- what a desk holds is unfinished
good-look : (xs : List ℕ) → 6 ≤ length xs → bad (packet_of xs) ≡ false → look_of xs ≡ Good (packet_of xs)
unfolding look_of
good-look xs l e = rw (le-ltb (length xs) 6 l, e)

pub held-unfinished : (n : ℕ) (d : List ℕ) → OctetsHeld n d → n ≤ length d → Unfinished (take n d)
held-unfinished n d o fits = by (ltb n 6) refl
  where
    long : length (take n d) ≡ n
    long = length-take-le n d fits

    by : (b : Bool) → ltb n 6 ≡ b → Unfinished (take n d)
    by true l = header (omega (arith, long, ltb-true n 6 l))
    by false l =
        let six : 6 ≤ n = ltb-false n 6 l in
        let same : look_of (take n d) ≡ look_of d = look-same (take n d) d (omega (arith, long)) (omega arith) (take-take 6 n d six) in
        packet (same ∙ good-look d (omega arith) (o.header six).0) (omega (arith, long, (o.header six).1))

-- the packet that is carried on into a zone
module _ (held zone : List ℕ) where
  -- a part of the zone is enough to tell its header
  pub look-carried : (n : ℕ) → 6 ≤ length held + n → n ≤ length zone → look_of (held ++ take n zone) ≡ look_of (held ++ zone)
  look-carried n six fits =
      let l : length (held ++ take n zone) ≡ length held + n =
      length-append held (take n zone) ∙ ap (λ (m : ℕ). length held + m) (length-take-le n zone fits) in
      let r : take (length held + n) (held ++ zone) ≡ held ++ take n zone = take-append-add held zone n in
      look-same (held ++ take n zone) (held ++ zone) (omega arith) (omega (arith, length-append held zone))
      (sym (ap (take 6) r) ∙ take-take 6 (length held + n) (held ++ zone) six)

  module _ {h : Packet} (e : look_of (held ++ zone) ≡ Good h) where
    -- "r is what the packet lacked at the zone's start": it lacked something
    pub carried-lacks : Unfinished held → length held < size_of h
    carried-lacks (header l) = omega (arith, (look-good (held ++ zone) h e).smallest)
    carried-lacks (packet {h = g} f l) =
        let s : look_of (held ++ zone) ≡ look_of held = look-append held zone (look-good held g f).six in
        let same : g ≡ h = cc in
        rw same at l

    module _ (r : ℕ) (lacked : length held + r ≡ size_of h) where
      pub carried-whole : r ≤ length zone → split (held ++ zone) ≡ behind (held ++ take r zone) (split (drop r zone))
      carried-whole l =
          split-whole (held ++ zone) e (omega (arith, length-append held zone)) ∙ rw (← lacked, take-append-add, drop-append-add)

      pub carried-packet : r ≤ length zone → Whole (held ++ take r zone)
      carried-packet l =
          let is : take (size_of h) (held ++ zone) ≡ held ++ take r zone = rw (← lacked) (take-append-add held zone r) in
          rw is at (packet-whole (held ++ zone) e (omega (arith, length-append held zone)))

      pub carried-part : length zone < r → split (held ++ zone) ≡ unfinished (held ++ zone)
      carried-part l = split-part (held ++ zone) e (omega (arith, length-append held zone))
