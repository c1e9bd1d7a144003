-- What is promised of streams and hunters, proved. Assumes nothing.
use mathlib.Core.Path.{◌≡◌, refl, sym, ap, ap₂, ◌∙◌, subst}
use mathlib.Core.Bool.{Bool, true, false, true≢false, false≢true}
use mathlib.Core.List.Memᴰ
use mathlib.Core.List.{List, [], ◌∷◌, ◌++◌, map, flatten, append-nil, Memᴰ}
use mathlib.Core.Logic.{inl, inr, ⊎_elim}
use Prim.Native.Nat.{ℕ, ◌+◌, ◌-◌, ◌≤◌, ◌<◌}
use native.Mathlib.Decide.{ℕ_discrete}
use native.Mathlib.Omega.{arith}
use borrow.Author.Tests.{le-leb, lt-leb, eq-eqb}
use lib.ListN.{length, take, drop, get_or, replicate, length-append, length-drop, take-append-drop}
use lib.Bits.{bit_xor, xor_self}
use lib.Count.{ones}
use lib.Seq.{length-take-le, take_at, drop_at, get_or-drop}
use Rattle.octets.specs.Number.{Octets, part, number}
use Rattle.octets.specs.Choice.{Decides}
use Rattle.octets.specs.Choice.Decides.{holds, fails}
use Rattle.octets.specs.Buffer.{all_zero}
use Rattle.octets.proofs.Decide.{told-true, tells}
use Rattle.octets.proofs.Zero.{blank-at, all-blank, all_zero-replicate}
use Rattle.frame.specs.declared.Channel.{Channel}
use Rattle.frame.specs.Header.{marker, starts_with, derandomised, frame_of}
use Rattle.frame.specs.Refusals.{examined, examined_header}
use Rattle.stream.specs.declared.Hunter.{Hunter}
use Rattle.stream.specs.Stream.{wrong_bits, is_marker, Here, here, Piece, Cuts, frames_in, righted, frames_of, waiting_of}
use Rattle.stream.specs.Stream.Here.{Waits, Passes, Whole}
use Rattle.stream.specs.Stream.Piece.{frame}
use Rattle.stream.specs.Stream.Cuts.{waits, passes, whole}
use Rattle.stream.specs.Hunter.{held, holding, no_hunter, begun_by, Sound, is_sound, passed, rest_of, hunt_gives, HuntOutcome, hunted}
use Rattle.stream.specs.Feed.{Fed, feed_all, last_of}
use Rattle.stream.specs.Plainly.{MarkerAt, FramesAt, frame_at, SoundPlainly, AllZero}
use Rattle.stream.specs.Promises.{Promises, Call, after, InStep, Begins, Answers, Takes, NothingLost}
use Rattle.stream.proofs.Cutting.{waits-is, whole_is, is-few, is_whole, marked_append, cuts, cut-is, joined, counted}
use Rattle.stream.proofs.Sounding.{sound-holding, is-sound, sound-is, decides-sound, sound-size, zero-unsound}
use Rattle.stream.proofs.Feeding.{roomless, unsound, rest-stays, hunts-whole, hunts-waits, righted-length, all_right, fed-right}
use Rattle.stream.proofs.Places.{decides-marker, stream-plainly, places-once, all-exact}

-- ---- begin

begins : (k : ℕ) → Begins k
unfolding begun_by
begins k = record { good = λ h. rw (le-leb k 3 h); over-3 = λ h. rw (lt-leb k 3 h) }

begun-is : (k : ℕ) → k ≤ 3 → (begun_by k).hunter ≡ holding k []
begun-is k h = ap (λ r. r.hunter) ((begins k).good h)

none-waits : (k : ℕ) → here k [] ≡ Waits
none-waits k = is-few k [] (omega arith)

-- ---- a call on a hunter that holds what waits

-- what a call on it gives: a frame or none
data Gives (k : ℕ) (w xs buffer : List ℕ) : HuntOutcome → Type 0 where
  found : (t : ℕ) (f : List ℕ) → 0 < t → t ≤ length xs → Gives k w xs buffer (hunt_gives 0 t true (holding k []) f)
  lacks : (v : List ℕ) → here k v ≡ Waits → Gives k w xs buffer (hunt_gives 0 (length xs) false (holding k v) buffer)

gives : (k : ℕ) (w xs buffer : List ℕ) → k ≤ 3 → here k w ≡ Waits → length buffer ≡ 1024 → Gives k w xs buffer (hunted (holding k w) xs buffer)
gives k w xs buffer l e room = go (here k (rest_of k (w ++ xs))) refl
  where
    go : (t : Here) → here k (rest_of k (w ++ xs)) ≡ t → Gives k w xs buffer (hunted (holding k w) xs buffer)
    go Waits q = rw (hunts-waits k w xs buffer l e room q) (lacks (rest_of k (w ++ xs)) q)
    go Passes q = absurd (rest-stays k (w ++ xs) q)
    go Whole q =
        let long = (whole_is k (rest_of k (w ++ xs)) q).0 in
        let less = (waits-is k w e).0 in
        rw (hunts-whole k w xs buffer l e room q)
        (found (passed k (w ++ xs) + 1024 - length w) (righted (take 1024 (rest_of k (w ++ xs)))) (omega arith)
        (omega (arith, length-drop (passed k (w ++ xs)) (w ++ xs), length-append w xs)))

gives-sound : (h : Hunter) (xs buffer : List ℕ) → length buffer ≡ 1024 → Sound h → Gives h.k (held h) xs buffer (hunted h xs buffer)
gives-sound h xs buffer room s =
    subst (λ (g : Hunter). Gives h.k (held h) xs buffer (hunted g xs buffer)) (sym s.form) (gives h.k (held h) xs buffer s.limit s.still room)

module _ {k : ℕ} {w xs buffer : List ℕ} where
  gives-0 : {o : HuntOutcome} → Gives k w xs buffer o → o.answer ≡ 0
  gives-0 (found t f z h) = refl
  gives-0 (lacks v e) = refl

  gives-hunter : {o : HuntOutcome} → k ≤ 3 → Gives k w xs buffer o → Sound o.hunter
  gives-hunter l (found t f z h) = sound-holding k [] l (none-waits k)
  gives-hunter l (lacks v e) = sound-holding k v l e

takes : (h : Hunter) (xs buffer : List ℕ) → length buffer ≡ 1024 → Sound h → Takes h xs buffer
takes h xs buffer room s = by (gives-sound h xs buffer room s)
  where
    within_by : {o : HuntOutcome} → Gives h.k (held h) xs buffer o → o.taken ≤ length xs
    within_by (found t f z l) = l
    within_by (lacks v e) = omega arith

    all-by : {o : HuntOutcome} → Gives h.k (held h) xs buffer o → o.found ≡ false → (o.taken ≡ length xs) × (o.buffer ≡ buffer)
    all-by (found t f z l) q = absurd (true≢false q)
    all-by (lacks v e) q = (refl, refl)

    some-by : {o : HuntOutcome} → Gives h.k (held h) xs buffer o → o.found ≡ true → (0 < o.taken) × (o.hunter ≡ holding h.k [])
    some-by (found t f z l) q = (z, refl)
    some-by (lacks v e) q = absurd (false≢true q)

    by : Gives h.k (held h) xs buffer (hunted h xs buffer) → Takes h xs buffer
    by g = record { within = within_by g; all = all-by g; some = some-by g }

-- ---- each number exactly when

-- the three ways of a call
data Way (h : Hunter) (xs buffer : List ℕ) : Type 0 where
  first : (length buffer ≡ 1024 → ⊥) → hunted h xs buffer ≡ hunt_gives 1 0 false h buffer → Way h xs buffer
  second : length buffer ≡ 1024 → (Sound h → ⊥) → hunted h xs buffer ≡ hunt_gives 2 0 false h buffer → Way h xs buffer
  third : length buffer ≡ 1024 → Sound h → (hunted h xs buffer).answer ≡ 0 → Way h xs buffer

way : (h : Hunter) (xs buffer : List ℕ) → length h.octets ≡ 1024 → Way h xs buffer
way h xs buffer size =
    elim (ℕ_discrete (length buffer) 1024) [
      | no n ↦ first n (roomless h xs buffer n)
      | yes r ↦ judged r (is_sound h) refl (decides-sound h size)
    ]
  where
    judged : length buffer ≡ 1024 → (b : Bool) → is_sound h ≡ b → Decides (Sound h) b → Way h xs buffer
    judged r true e (holds s) = third r s (gives-0 (gives-sound h xs buffer r s))
    judged r false e (fails f) = second r f (unsound h xs buffer r e)

answers : (h : Hunter) (xs buffer : List ℕ) → length h.octets ≡ 1024 → Answers h xs buffer
answers h xs buffer size = by (way h xs buffer size)
  where
    by : Way h xs buffer → Answers h xs buffer
    by (first n e) =
        let a : (hunted h xs buffer).answer ≡ 1 = ap (λ (o : HuntOutcome). o.answer) e in
        record {
          one = (λ q. n, λ q. a);
          two = (λ q. absurd (omega arith), λ q. absurd (n q.0));
          none = (λ q. absurd (omega arith), λ q. absurd (n q.0));
          refused = λ q. e ∙ ap (λ (m : ℕ). hunt_gives m 0 false h buffer) (sym a);
        }
    by (second r f e) =
        let a : (hunted h xs buffer).answer ≡ 2 = ap (λ (o : HuntOutcome). o.answer) e in
        record {
          one = (λ q. absurd (omega arith), λ q. absurd (q r));
          two = (λ q. (r, f), λ q. a);
          none = (λ q. absurd (omega arith), λ q. absurd (f q.1));
          refused = λ q. e ∙ ap (λ (m : ℕ). hunt_gives m 0 false h buffer) (sym a);
        }
    by (third r s a) =
        record {
          one = (λ q. absurd (omega arith), λ q. absurd (q r));
          two = (λ q. absurd (omega arith), λ q. absurd (q.1 s));
          none = (λ q. (r, s), λ q. a);
          refused = λ q. absurd (q a);
        }

-- a call that found a frame has taken some octets, and no more than there are, whatever hunter it was handed
pub found-takes : (h : Hunter) (xs buffer : List ℕ) → length h.octets ≡ 1024 → (hunted h xs buffer).found ≡ true
    → (0 < (hunted h xs buffer).taken) × ((hunted h xs buffer).taken ≤ length xs)
found-takes h xs buffer size q = by (way h xs buffer size)
  where
    by : Way h xs buffer → (0 < (hunted h xs buffer).taken) × ((hunted h xs buffer).taken ≤ length xs)
    by (first n e) = absurd (false≢true (sym (ap (λ (o : HuntOutcome). o.found) e) ∙ q))
    by (second r f e) = absurd (false≢true (sym (ap (λ (o : HuntOutcome). o.found) e) ∙ q))
    by (third r s a) =
        let t = takes h xs buffer r s in
        ((t.some q).0, t.within)

-- ---- a sound hunter stays sound

stays-sound : (h : Hunter) (xs buffer : List ℕ) → Sound h → Sound (hunted h xs buffer).hunter
stays-sound h xs buffer s =
    elim (ℕ_discrete (length buffer) 1024) [
      | no n ↦ rw (roomless h xs buffer n) s
      | yes r ↦ gives-hunter s.limit (gives-sound h xs buffer r s)
    ]

sound-after : (h : Hunter) (cs : List Call) → Sound h → Sound (after h cs)
unfolding after
sound-after h [] s = s
sound-after h (c ∷ cs) s = sound-after (hunted h c.portion c.buffer).hunter cs (stays-sound h c.portion c.buffer s)

begun-sound : (k : ℕ) → k ≤ 3 → Sound (begun_by k).hunter
begun-sound k l = rw (begun-is k l) (sound-holding k [] l (none-waits k))

-- ---- soundness, field by field

module _ (h : Hunter) (size : length h.octets ≡ 1024) (o : Octets h.octets) where
  marker-first : Decides (MarkerAt h.k h.octets 0) (is_marker h.k h.octets)
  marker-first = decides-marker h.k h.octets o 0 (omega arith)

  zero-at : all_zero (drop h.waiting h.octets) ≡ true → (i : ℕ) → h.waiting ≤ i → get_or h.octets i 0 ≡ 0
  zero-at z i l =
      let p : h.waiting + (i - h.waiting) ≡ i = omega arith in
      sym (get_or-drop h.waiting h.octets (i - h.waiting) 0 ∙ ap (λ (n : ℕ). get_or h.octets n 0) p)
      ∙ blank-at (drop h.waiting h.octets) (i - h.waiting) z

  plain_of : Sound h → SoundPlainly h
  plain_of s =
      let ((((b, k), w), m), z) = sound-is h size s in
      record { begun = b; limit = k; few = omega arith; marked = ⊎_elim inl (λ t. inr (told-true marker-first t)) m; zeros = zero-at z }

  of_plain : SoundPlainly h → Sound h
  of_plain p =
      is-sound h size p.begun p.limit (omega (arith, p.few)) (⊎_elim inl (λ m. inr (tells marker-first m)) p.marked)
      (all-blank (drop h.waiting h.octets) (λ i l. get_or-drop h.waiting h.octets i 0 ∙ p.zeros (h.waiting + i) (omega arith)))

zero : AllZero no_hunter
zero = record { begun = refl; k = refl; waiting = refl; octets = λ i. blank-at (replicate 1024 0) i (all_zero-replicate 1024) }

-- ---- however the stream is divided

divided : (k : ℕ) (xs : List (List ℕ)) (buffer : List ℕ) → k ≤ 3 → length buffer ≡ 1024
    → feed_all (begun_by k).hunter xs buffer
    ≡ record { frames = frames_of k (flatten xs); hunter = holding k (waiting_of k (flatten xs)); buffer = last_of buffer (frames_of k (flatten xs)) }
divided k xs buffer l room =
    rw (begun-is k l) (fed-right k (flatten xs) buffer (feed_all (holding k []) xs buffer) (all_right xs k [] buffer l (none-waits k) room))

still-waits : (k : ℕ) (w : List ℕ) → here k w ≡ Waits → waiting_of k w ≡ w
unfolding waiting_of
still-waits k w e = (cut-is k (waits e)).1

reached : (h : Hunter) (buffer : List ℕ) → length buffer ≡ 1024 → Sound h → (feed_all (begun_by h.k).hunter (held h ∷ []) buffer).hunter ≡ h
unfolding flatten
reached h buffer room s =
    ap (λ (r : Fed). r.hunter) (divided h.k (held h ∷ []) buffer s.limit room)
    ∙ ap (holding h.k) (ap (waiting_of h.k) (append-nil (held h)) ∙ still-waits h.k (held h) s.still)
    ∙ sym s.form

-- ---- nothing is lost; no frame is refused by 3 or 4

nothing-lost : (k : ℕ) (xs : List ℕ) → NothingLost k xs
unfolding frames_of waiting_of
nothing-lost k xs = record { cuts = cuts k xs; joined = joined k (cuts k xs); counted = counted (cuts k xs) }

starts : (f : List ℕ) → starts_with marker (righted f) ≡ true
unfolding righted starts_with
starts f = refl

goes_on : (craft : ℕ) (watched : List Channel) (f : List ℕ) → length f ≡ 1024
    → examined craft watched (righted f) ≡ examined_header craft watched (frame_of (derandomised (righted f)))
unfolding examined
goes_on craft watched f e = rw (eq-eqb (length (righted f)) 1024 (righted-length f e), starts f)

not-refused : (k : ℕ) {xs w : List ℕ} {ps : List Piece} (f : List ℕ) → Cuts k xs ps w → Memᴰ f (frames_in ps) → (craft : ℕ) (watched : List Channel)
    → examined craft watched f ≡ examined_header craft watched (frame_of (derandomised f))
not-refused k f (waits {xs = xs} _) m craft watched = elim m [ ]
not-refused k f (passes e c) m craft watched = not-refused k f c m craft watched
not-refused k {xs} f (whole e c) m craft watched =
    ⊎_elim (λ q. rw q (goes_on craft watched (take 1024 xs) (length-take-le 1024 xs (whole_is k xs e).0))) (λ n. not-refused k f c n craft watched) (Memᴰ.cases_cons m)

-- ---- frames in step

no-wrong-bits : (f : List ℕ) → take 4 f ≡ marker → wrong_bits f ≡ 0
unfolding wrong_bits ones
no-wrong-bits f e = ap (λ (t : List ℕ). ones (bit_xor (number t) (number marker))) e ∙ ap ones (xor_self (number marker))

exact-marker : (k : ℕ) (f : List ℕ) → take 4 f ≡ marker → is_marker k f ≡ true
unfolding is_marker
exact-marker k f e = le-leb (wrong_bits f) k (omega (arith, no-wrong-bits f e))

righted-same : (f : List ℕ) → take 4 f ≡ marker → righted f ≡ f
unfolding righted
righted-same f e = ap (λ (m : List ℕ). m ++ drop 4 f) (sym e) ∙ take-append-drop 4 f

-- a frame in front of a stream
step-cuts : (k : ℕ) (f s : List ℕ) {ps : List Piece} {w : List ℕ} → length f ≡ 1024 → take 4 f ≡ marker → Cuts k s ps w → Cuts k (f ++ s) (frame f ∷ ps) w
step-cuts k f s {ps} {w} size e c =
    let m : is_marker k (f ++ s) ≡ true = marked_append k f s (omega arith) ∙ exact-marker k f e in
    let here-whole : here k (f ++ s) ≡ Whole = is_whole k (f ++ s) m (omega (arith, length-append f s)) in
    let rest : drop 1024 (f ++ s) ≡ s = drop_at f s 1024 size in
    let front : take 1024 (f ++ s) ≡ f = take_at f s 1024 size in
    subst (λ (g : List ℕ). Cuts k (f ++ s) (frame g ∷ ps) w) front (whole here-whole (subst (λ (ys : List ℕ). Cuts k ys ps w) (sym rest) c))

in-step-cuts : (k : ℕ) (fs : List (List ℕ)) → InStep fs → Cuts k (flatten fs) (map frame fs) [] × (frames_in (map frame fs) ≡ fs)
unfolding InStep flatten
in-step-cuts k [] h = (waits (none-waits k), refl)
in-step-cuts k (f ∷ fs) (size, e, h) =
    let (c, q) = in-step-cuts k fs h in
    (step-cuts k f (flatten fs) size e c, ap₂ ◌∷◌ (righted-same f e) q)

in_step : (k : ℕ) (fs : List (List ℕ)) → InStep fs → (frames_of k (flatten fs) ≡ fs) × (waiting_of k (flatten fs) ≡ [])
unfolding frames_of waiting_of
in_step k fs h =
    let (c, q) = in-step-cuts k fs h in
    let d = cut-is k c in
    (ap frames_in d.0 ∙ q, d.1)

-- for k = 0
as-they-stand : (xs : List ℕ) → Octets xs → {ps : List ℕ} {w : ℕ} → FramesAt 0 xs 0 ps w → frames_of 0 xs ≡ map (λ (p : ℕ). part p 1024 xs) ps
as-they-stand xs o h =
    let r = stream-plainly 0 xs o in
    r.frames ∙ ap (map (frame_at xs)) (places-once 0 xs r.stands h).0 ∙ all-exact xs h

pub promises : Promises
unfolding frames_of
promises =
    record {
      begins = begins;
      zero = zero;
      zero-unsound = zero-unsound;
      sound-plainly = λ h size o. (plain_of h size o, of_plain h size o);
      answers = answers;
      takes = takes;
      sound = λ k l cs. sound-after (begun_by k).hunter cs (begun-sound k l);
      never-2 = λ k l cs xs buffer q.
          let s = sound-after (begun_by k).hunter cs (begun-sound k l) in
          ((answers (after (begun_by k).hunter cs) xs buffer (sound-size (after (begun_by k).hunter cs) s)).two.0 q).1 s;
      reached = reached;
      divided = divided;
      two-divisions = λ k xs ys buffer l room e.
          divided k xs buffer l room
          ∙ ap (λ (s : List ℕ). record { frames = frames_of k s; hunter = holding k (waiting_of k s); buffer = last_of buffer (frames_of k s) }) e
          ∙ sym (divided k ys buffer l room);
      plainly = stream-plainly;
      one_way = places-once;
      nothing-lost = nothing-lost;
      in_step = in_step;
      as-they-stand = as-they-stand;
      not-refused = λ k xs f m craft watched. not-refused k f (cuts k xs) m craft watched;
    }
