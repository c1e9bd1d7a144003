-- A desk as the code sets it in order, store by store. Assumes nothing.
use mathlib.Core.Path.{◌≡◌, sym, ap, ap₂, ◌∙◌}
use mathlib.Core.Bool.{true, ◌||◌}
use mathlib.Core.Logic.{inl}
use mathlib.Core.List.{List, ◌++◌, append_assoc}
use Prim.Native.Nat.{ℕ, ◌+◌, ◌-◌, ◌*◌, ◌≤◌}
use native.Mathlib.Omega.{arith}
use lib.Dec.{ltb}
use lib.ListN.{length, take, drop, replicate, length-append, length-drop, length-replicate, take-append-drop}
use lib.Seq.{take-take, length-take-le}
use Rattle.octets.specs.Number.{part}
use Rattle.octets.specs.Buffer.{put, all_zero}
use Rattle.octets.proofs.Lists.{whole_part, part-add, drop-replicate}
use Rattle.octets.proofs.Put.{put-put, part-put-in, part-put-out, put_front, put_under, put-again}
use Rattle.octets.proofs.Zero.{blank-zeros}
use Rattle.octets.proofs.Decide.{tells}
use Rattle.octets.proofs.Tests.{and_left}
use Rattle.packet.specs.Header.{look_of}
use Rattle.state.specs.Sound.{OctetsHeld, desk_octets}
use Rattle.state.specs.Decision.{longer, octets_held}
use Rattle.state.proofs.Exactly.{octets-exactly}
use Rattle.zone.specs.Walk.{with_held}

-- "zeros after them"
zeros-behind : (h : ℕ) (d : List ℕ) → OctetsHeld h d → (n : ℕ) → length d ≡ n → 6 ≤ n → drop h d ≡ replicate (n - h) 0
unfolding octets_held
zeros-behind h d o n k six =
    let all : octets_held h d ≡ true = tells (octets-exactly h d (omega arith)) o in
    blank-zeros (drop h d) (and_left (all_zero (drop h d)) (ltb h 6 || longer h (look_of d)) all)
    ∙ ap (λ (m : ℕ). replicate m 0) (length-drop h d ∙ ap (λ (m : ℕ). m - h) k)

-- a stretch of n places, from place a on: blanked, then written from its start
blank-written : (n a : ℕ) (xs ys : List ℕ) → length ys ≤ n → put (put xs a (replicate n 0)) a ys ≡ put xs a (ys ++ replicate (n - length ys) 0)
blank-written n a xs ys l =
    put_front ys (replicate n 0) xs a (omega (arith, length-replicate {A = ℕ} n 0))
    ∙ ap (λ (zs : List ℕ). put xs a (ys ++ zs)) (drop-replicate (length ys) n 0)

module _ (n a : ℕ) (xs : List ℕ) (h : ℕ) (es : List ℕ) (fits : h + length es ≤ n) where
  -- written all over: what was written into it before is gone
  written_over : (ys : List ℕ) → length ys ≤ n
      → put (put xs (a + h) es) a (ys ++ replicate (n - length ys) 0) ≡ put xs a (ys ++ replicate (n - length ys) 0)
  written_over ys m =
      put_under es (ys ++ replicate (n - length ys) 0) xs a (a + h) (omega arith)
      (omega (arith, length-append ys (replicate (n - length ys) 0), length-replicate {A = ℕ} (n - length ys) 0))

  -- h octets with zeros behind them: more octets put behind the h
  written_behind : a + n ≤ length xs → drop h (part a n xs) ≡ replicate (n - h) 0
      → put xs (a + h) es ≡ put xs a (part a h xs ++ es ++ replicate (n - length (part a h xs ++ es)) 0)
  written_behind l z =
      let front = part a h xs in
      let k : length front ≡ h = whole_part xs a h (omega arith) in
      let cut : part a n xs ≡ front ++ replicate (n - h) 0 =
      sym (take-append-drop h (part a n xs)) ∙ ap₂ ◌++◌ (take-take h n (drop a xs) (omega arith)) z in
      let rest : n - h - length es ≡ n - length (front ++ es) = omega (arith, length-append front es) in
      let before : xs ≡ put (put xs a front) (a + h) (replicate (n - h) 0) =
      sym (put-again xs a n l) ∙ ap (put xs a) cut ∙ sym (put-put front xs a (replicate (n - h) 0))
      ∙ ap (λ (m : ℕ). put (put xs a front) (a + m) (replicate (n - h) 0)) k in
      ap (λ (ys : List ℕ). put ys (a + h) es) before ∙ blank-written (n - h) (a + h) (put xs a front) es (omega arith)
      ∙ ap₂ (λ (m r : ℕ). put (put xs a front) (a + m) (es ++ replicate r 0)) (sym k) rest
      ∙ put-put front xs a (es ++ replicate (n - length (front ++ es)) 0)
      ∙ ap (put xs a) (sym (append_assoc front es (replicate (n - length (front ++ es)) 0)))

-- desk i: blanked, then what is left is put there
pub blank-held : (desks : List ℕ) (i : ℕ) (left : List ℕ) → length left ≤ 8198
    → put (put desks (8198 * i) (replicate 8198 0)) (8198 * i) left ≡ with_held desks i left
blank-held desks i left l = blank-written 8198 (8198 * i) desks left l

module _ (desks : List ℕ) (i h : ℕ) (es : List ℕ) (fits : h + length es ≤ 8198) where
  -- what was put behind the held octets is gone with the packet
  pub over-held : (left : List ℕ) → length left ≤ 8198 → with_held (put desks (8198 * i + h) es) i left ≡ with_held desks i left
  over-held left l = written_over 8198 (8198 * i) desks h es fits left l

  -- more octets behind the held ones
  pub more-held : OctetsHeld h (desk_octets i desks) → 8198 * i + 8198 ≤ length desks
      → put desks (8198 * i + h) es ≡ with_held desks i (part (8198 * i) h desks ++ es)
  more-held o l =
      written_behind 8198 (8198 * i) desks h es fits l
      (zeros-behind h (desk_octets i desks) o 8198 (whole_part desks (8198 * i) 8198 l) (omega arith))

-- the carried packet on its desk: the h octets held, and the first r of the m that were put behind them
pub carried-cut : (xs ys : List ℕ) (a h m r : ℕ) → a + h + m ≤ length xs → m ≤ length ys → r ≤ m
    → part a (h + r) (put xs (a + h) (take m ys)) ≡ part a h xs ++ take r ys
carried-cut xs ys a h m r fits long l =
    let es = take m ys in
    let k : length es ≡ m = length-take-le m ys long in
    let there : part (a + h) m (put xs (a + h) es) ≡ es =
    ap (λ (n : ℕ). part (a + h) n (put xs (a + h) es)) (sym k) ∙ part-put-in es xs (a + h) (omega arith) in
    part-add (put xs (a + h) es) a h r
    ∙ ap₂ ◌++◌ (part-put-out es xs (a + h) a h (inl (omega arith)))
    (sym (take-take r m (drop (a + h) (put xs (a + h) es)) l) ∙ ap (take r) there ∙ take-take r m ys l)
