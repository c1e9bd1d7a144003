-- A hunter that is fed a stream, in whatever portions, gives the frames of the stream and holds what waits. Assumes nothing.
use mathlib.Core.Path.{◌≡◌, refl, sym, ap, ap₂, ◌∙◌, subst}
use mathlib.Core.Bool.{true, false}
use mathlib.Core.List.{List, [], ◌∷◌, ◌++◌, map, flatten, append-nil, append_assoc}
use Prim.Native.Nat.{ℕ, zero, suc, ◌+◌, ◌-◌, ◌≤◌, ◌<◌}
use native.Mathlib.Omega.{arith}
use borrow.Author.Tests.{eq-eqb, ne_eqb}
use lib.ListN.{length, take, drop, length-append, length-drop}
use lib.Seq.{drop-drop, drop-append-add, length-take-le}
use Rattle.octets.proofs.Decide.{tells}
use Rattle.stream.specs.declared.Hunter.{Hunter}
use Rattle.stream.specs.Stream.{Here, here, Piece, Cuts, frames_in, righted, frames_of, waiting_of, cut}
use Rattle.stream.specs.Stream.Here.{Waits, Passes, Whole}
use Rattle.stream.specs.Stream.Piece.{over, frame}
use Rattle.stream.specs.Stream.Cuts.{waits, passes, whole}
use Rattle.stream.specs.Hunter.{holding, Sound, is_sound, passed, rest_of, HuntOutcome, hunt_gives, hunt_of, hunted}
use Rattle.stream.specs.Feed.{Fed, no_frame, with_frame, after_frames, feed_in, feed, feed_all, last_of}
use Rattle.stream.proofs.Cutting.{waits-passes, whole-passes, waits-is, passes-is, whole_is, is-few, division, cuts, still, cut-is}
use Rattle.stream.proofs.Seeking.{passed_none, passed-one}
use Rattle.stream.proofs.Sounding.{held-holding, waiting-holding, k-holding, sound-holding, sound-size, decides-sound}

-- octets passed over
abbrev pub overs : List ℕ → List Piece
overs xs = map over xs

no_frames : (xs : List ℕ) (ps : List Piece) → frames_in (overs xs ++ ps) ≡ frames_in ps
no_frames [] ps = refl
no_frames (x ∷ xs) ps = no_frames xs ps

frames-append : (ps qs : List Piece) → frames_in (ps ++ qs) ≡ frames_in ps ++ frames_in qs
frames-append [] qs = refl
frames-append (over x ∷ ps) qs = frames-append ps qs
frames-append (frame f ∷ ps) qs = ap (λ (fs : List (List ℕ)). righted f ∷ fs) (frames-append ps qs)

last-append : (buffer : List ℕ) (fs gs : List (List ℕ)) → last_of buffer (fs ++ gs) ≡ last_of (last_of buffer fs) gs
last-append buffer [] gs = refl
last-append buffer (f ∷ fs) gs = last-append f fs gs

module _ (k : ℕ) where
  few-stay : here k [] ≡ Passes → ⊥
  few-stay p = omega (arith, (passes-is k [] p).0)

  -- what is cut behind the octets passed over
  pub passed-cuts : (s : List ℕ) {qs : List Piece} {w : List ℕ} → Cuts k (rest_of k s) qs w → Cuts k s (overs (take (passed k s) s) ++ qs) w
  passed-cuts [] c =
      let z = passed_none k [] few-stay in
      rw z (rw z at c)
  passed-cuts (x ∷ xs) {qs} {w} c = go (here k (x ∷ xs)) refl (λ d. passed-cuts xs d)
    where
      go : (l : Here) → here k (x ∷ xs) ≡ l → (Cuts k (rest_of k xs) qs w → Cuts k xs (overs (take (passed k xs) xs) ++ qs) w)
          → Cuts k (x ∷ xs) (overs (take (passed k (x ∷ xs)) (x ∷ xs)) ++ qs) w
      go Waits e f =
          let z = passed_none k (x ∷ xs) (waits-passes e) in
          rw z (rw z at c)
      go Passes e f =
          let z = passed-one k x xs e in
          rw z (passes e (f (rw z at c)))
      go Whole e f =
          let z = passed_none k (x ∷ xs) (whole-passes e) in
          rw z (rw z at c)

  pub rest-stays : (s : List ℕ) → here k (rest_of k s) ≡ Passes → ⊥
  rest-stays [] e = few-stay (rw (passed_none k [] few-stay) at e)
  rest-stays (x ∷ xs) e = go (here k (x ∷ xs)) refl (rest-stays xs)
    where
      go : (l : Here) → here k (x ∷ xs) ≡ l → (here k (rest_of k xs) ≡ Passes → ⊥) → ⊥
      go Waits q f = waits-passes q (rw (passed_none k (x ∷ xs) (waits-passes q)) at e)
      go Passes q f = f (rw (passed-one k x xs q) at e)
      go Whole q f = whole-passes q (rw (passed_none k (x ∷ xs) (whole-passes q)) at e)

-- ---- one call: refused, or what it finds

pub roomless : (h : Hunter) (xs buffer : List ℕ) → (length buffer ≡ 1024 → ⊥) → hunted h xs buffer ≡ hunt_gives 1 0 false h buffer
unfolding hunted
roomless h xs buffer n = rw (ne_eqb (length buffer) 1024 n)

pub unsound : (h : Hunter) (xs buffer : List ℕ) → length buffer ≡ 1024 → is_sound h ≡ false → hunted h xs buffer ≡ hunt_gives 2 0 false h buffer
unfolding hunted
unsound h xs buffer r e = rw (eq-eqb (length buffer) 1024 r, e)

pub hunted-sound : (h : Hunter) (xs buffer : List ℕ) → length buffer ≡ 1024 → Sound h → hunted h xs buffer ≡ hunt_of h xs buffer
unfolding hunted
hunted-sound h xs buffer room s = rw (eq-eqb (length buffer) 1024 room, tells (decides-sound h (sound-size h s)) s)

module _ (k : ℕ) (w xs buffer : List ℕ) where
  found-by : here k (rest_of k (w ++ xs)) ≡ Whole
      → hunt_of (holding k w) xs buffer ≡ hunt_gives 0 (passed k (w ++ xs) + 1024 - length w) true (holding k []) (righted (take 1024 (rest_of k (w ++ xs))))
  unfolding hunt_of
  found-by e = rw (held-holding k w, k-holding k w, waiting-holding k w, e)

  waits-by : here k (rest_of k (w ++ xs)) ≡ Waits → hunt_of (holding k w) xs buffer ≡ hunt_gives 0 (length xs) false (holding k (rest_of k (w ++ xs))) buffer
  unfolding hunt_of
  waits-by e = rw (held-holding k w, k-holding k w, e)

  module _ (l : k ≤ 3) (w-waits : here k w ≡ Waits) (room : length buffer ≡ 1024) where
    pub hunts-whole : here k (rest_of k (w ++ xs)) ≡ Whole
        → hunted (holding k w) xs buffer ≡ hunt_gives 0 (passed k (w ++ xs) + 1024 - length w) true (holding k []) (righted (take 1024 (rest_of k (w ++ xs))))
    hunts-whole e = hunted-sound (holding k w) xs buffer room (sound-holding k w l w-waits) ∙ found-by e

    pub hunts-waits : here k (rest_of k (w ++ xs)) ≡ Waits
        → hunted (holding k w) xs buffer ≡ hunt_gives 0 (length xs) false (holding k (rest_of k (w ++ xs))) buffer
    hunts-waits e = hunted-sound (holding k w) xs buffer room (sound-holding k w l w-waits) ∙ waits-by e

-- ---- one portion

module _ (n : ℕ) (h : Hunter) (xs buffer : List ℕ) where
  pub feed-more : (hunted h xs buffer).found ≡ true
      → feed_in (suc n) h xs buffer
      ≡ with_frame (hunted h xs buffer).buffer (feed_in n (hunted h xs buffer).hunter (drop (hunted h xs buffer).taken xs) (hunted h xs buffer).buffer)
  unfolding feed_in
  feed-more e = rw (e, feed_in)

  pub feed-done : (hunted h xs buffer).found ≡ false → feed_in (suc n) h xs buffer ≡ no_frame (hunted h xs buffer)
  unfolding feed_in
  feed-done e = rw (e, feed_in)

  feed-found : (g : Hunter) (f : List ℕ) (t : ℕ) → hunted h xs buffer ≡ hunt_gives 0 t true g f → feed_in (suc n) h xs buffer ≡ with_frame f (feed_in n g (drop t xs) f)
  feed-found g f t q =
      feed-more (ap (λ (o : HuntOutcome). o.found) q)
      ∙ ap (λ (o : HuntOutcome). with_frame o.buffer (feed_in n o.hunter (drop o.taken xs) o.buffer)) q

  feed-none : (g : Hunter) (f : List ℕ) (t : ℕ) → hunted h xs buffer ≡ hunt_gives 0 t false g f → feed_in (suc n) h xs buffer ≡ record { frames = []; hunter = g; buffer = f }
  feed-none g f t q = feed-done (ap (λ (o : HuntOutcome). o.found) q) ∙ ap no_frame q

-- what was fed gave the frames of the stream s, and left what waits of it
pub record Right (k : ℕ) (s buffer : List ℕ) (r : Fed) : Type 0 where
  pub pieces : List Piece
  pub waiting : List ℕ
  pub cuts : Cuts k s pieces waiting
  pub same : r.frames ≡ frames_in pieces
  pub holds : r.hunter ≡ holding k waiting
  pub left : r.buffer ≡ last_of buffer r.frames

pub righted-length : (f : List ℕ) → length f ≡ 1024 → length (righted f) ≡ 1024
unfolding righted
righted-length f e = omega (arith, length-drop 4 f)

module _ (k : ℕ) (s buffer : List ℕ) where
  found_right : (r : Fed) → here k (rest_of k s) ≡ Whole → Right k (drop 1024 (rest_of k s)) (righted (take 1024 (rest_of k s))) r
      → Right k s buffer (with_frame (righted (take 1024 (rest_of k s))) r)
  found_right r e x =
      record {
        pieces = overs (take (passed k s) s) ++ (frame (take 1024 (rest_of k s)) ∷ x.pieces);
        waiting = x.waiting;
        cuts = passed-cuts k s (whole e x.cuts);
        same = ap (λ (fs : List (List ℕ)). righted (take 1024 (rest_of k s)) ∷ fs) x.same
            ∙ sym (no_frames (take (passed k s) s) (frame (take 1024 (rest_of k s)) ∷ x.pieces));
        holds = x.holds;
        left = x.left;
      }

  waits-right : here k (rest_of k s) ≡ Waits → Right k s buffer (record { frames = []; hunter = holding k (rest_of k s); buffer = buffer })
  waits-right e =
      record {
        pieces = overs (take (passed k s) s) ++ [];
        waiting = rest_of k s;
        cuts = passed-cuts k s (waits e);
        same = sym (no_frames (take (passed k s) s) []);
        holds = refl;
        left = refl;
      }

-- what is behind a whole frame is the rest of the portion, and shorter
module _ (w xs : List ℕ) (p : ℕ) (less : length w < 1024) where
  behind : drop (p + 1024 - length w) xs ≡ drop 1024 (drop p (w ++ xs))
  behind =
      let t : p + 1024 ≡ length w + (p + 1024 - length w) = omega arith in
      sym (drop-drop 1024 p (w ++ xs) ∙ ap (λ (j : ℕ). drop j (w ++ xs)) t ∙ drop-append-add w xs (p + 1024 - length w))

  shorter : (m : ℕ) → 1024 ≤ length (drop p (w ++ xs)) → length xs < suc m → length (drop (p + 1024 - length w) xs) < m
  shorter m l h = omega (arith, length-drop p (w ++ xs), length-append w xs, length-drop (p + 1024 - length w) xs)

pub feed-right : (n k : ℕ) (w xs buffer : List ℕ) → k ≤ 3 → here k w ≡ Waits → length buffer ≡ 1024 → length xs < n
    → Right k (w ++ xs) buffer (feed_in n (holding k w) xs buffer)
feed-right zero k w xs buffer l e room h = absurd (omega arith)
feed-right (suc n) k w xs buffer l e room h =
    go (here k (rest_of k (w ++ xs))) refl (λ ys f r m. feed-right n k [] ys f l (is-few k [] (omega arith)) r m)
  where
    go : (t : Here) → here k (rest_of k (w ++ xs)) ≡ t
        → ((ys f : List ℕ) → length f ≡ 1024 → length ys < n → Right k ys f (feed_in n (holding k []) ys f))
        → Right k (w ++ xs) buffer (feed_in (suc n) (holding k w) xs buffer)
    go Waits q ih =
        rw (feed-none n (holding k w) xs buffer (holding k (rest_of k (w ++ xs))) buffer (length xs) (hunts-waits k w xs buffer l e room q))
        (waits-right k (w ++ xs) buffer q)
    go Passes q ih = absurd (rest-stays k (w ++ xs) q)
    go Whole q ih =
        let p = passed k (w ++ xs) in
        let f = righted (take 1024 (rest_of k (w ++ xs))) in
        let less = (waits-is k w e).0 in
        let long = (whole_is k (rest_of k (w ++ xs)) q).0 in
        let sized = righted-length (take 1024 (rest_of k (w ++ xs))) (length-take-le 1024 (rest_of k (w ++ xs)) long) in
        let t = p + 1024 - length w in
        rw (feed-found n (holding k w) xs buffer (holding k []) f t (hunts-whole k w xs buffer l e room q))
        (found_right k (w ++ xs) buffer (feed_in n (holding k []) (drop t xs) f) q
        (subst (λ (ys : List ℕ). Right k ys f (feed_in n (holding k []) (drop t xs) f)) (behind w xs p less) (ih (drop t xs) f sized (shorter w xs p less n long h))))

-- ---- however the stream is divided

-- one portion, then the others
both_right : (k : ℕ) (w x ys buffer : List ℕ) (r s : Fed) (p : Right k (w ++ x) buffer r) → Right k (p.waiting ++ ys) r.buffer s
    → Right k (w ++ (x ++ ys)) buffer (after_frames r.frames s)
both_right k w x ys buffer r s p q =
    record {
      pieces = p.pieces ++ q.pieces;
      waiting = q.waiting;
      cuts = subst (λ (zs : List ℕ). Cuts k zs (p.pieces ++ q.pieces) q.waiting) (append_assoc w x ys) (division k ys p.cuts q.cuts);
      same = ap₂ (λ (fs gs : List (List ℕ)). fs ++ gs) p.same q.same ∙ sym (frames-append p.pieces q.pieces);
      holds = q.holds;
      left = q.left ∙ ap (λ (b : List ℕ). last_of b s.frames) p.left ∙ sym (last-append buffer r.frames s.frames);
    }

-- the last frame, or the buffer that was lent, has 1,024 octets
lasts : (fs : List (List ℕ)) (ps : List Piece) (k : ℕ) {xs w : List ℕ} (buffer : List ℕ) → Cuts k xs ps w → fs ≡ frames_in ps → length buffer ≡ 1024
    → length (last_of buffer fs) ≡ 1024
lasts fs ps k buffer c e room = rw e (go ps buffer c room)
  where
    go : (ps : List Piece) {xs w : List ℕ} (b : List ℕ) → Cuts k xs ps w → length b ≡ 1024 → length (last_of b (frames_in ps)) ≡ 1024
    go [] b c r = r
    go (over x ∷ ps) b (passes e c) r = go ps b c r
    go (frame f ∷ ps) {xs} b (whole e c) r = go ps (righted f) c (righted-length f (length-take-le 1024 xs (whole_is k xs e).0))

pub all_right : (xs : List (List ℕ)) (k : ℕ) (w buffer : List ℕ) → k ≤ 3 → here k w ≡ Waits → length buffer ≡ 1024
    → Right k (w ++ flatten xs) buffer (feed_all (holding k w) xs buffer)
unfolding feed_all feed flatten
all_right [] k w buffer l e room =
    record { pieces = []; waiting = w; cuts = rw (append-nil w) (waits e); same = refl; holds = refl; left = refl }
all_right (x ∷ xs) k w buffer l e room =
    go (feed-right (suc (length x)) k w x buffer l e room (omega arith)) (λ v b f r. all_right xs k v b l f r)
  where
    go : Right k (w ++ x) buffer (feed (holding k w) x buffer)
        → ((v b : List ℕ) → here k v ≡ Waits → length b ≡ 1024 → Right k (v ++ flatten xs) b (feed_all (holding k v) xs b))
        → Right k (w ++ (x ++ flatten xs)) buffer (feed_all (holding k w) (x ∷ xs) buffer)
    go p ih =
        let b = (feed (holding k w) x buffer).buffer in
        let sized = ap length p.left ∙ lasts (feed (holding k w) x buffer).frames p.pieces k buffer p.cuts p.same room in
        both_right k w x (flatten xs) buffer (feed (holding k w) x buffer) (feed_all (feed (holding k w) x buffer).hunter xs b) p
        (subst (λ (h : Hunter). Right k (p.waiting ++ flatten xs) b (feed_all h xs b)) (sym p.holds) (ih p.waiting b (still k p.cuts) sized))

-- what a hunter is fed from its beginning on, in whatever portions
pub fed-right : (k : ℕ) (s buffer : List ℕ) (r : Fed) → Right k s buffer r
    → r ≡ record { frames = frames_of k s; hunter = holding k (waiting_of k s); buffer = last_of buffer (frames_of k s) }
unfolding frames_of waiting_of
fed-right k s buffer r x =
    let c = cut-is k x.cuts in
    let f : r.frames ≡ frames_in (cut k s).pieces = x.same ∙ ap frames_in (sym c.0) in
    let h : r.hunter ≡ holding k (cut k s).waiting = x.holds ∙ ap (holding k) (sym c.1) in
    let b : r.buffer ≡ last_of buffer (frames_in (cut k s).pieces) = x.left ∙ ap (last_of buffer) f in
    λ i. record { frames = f i; hunter = h i; buffer = b i }

-- a hunter that was fed the stream s is fed the portion x
pub record Further (k : ℕ) (s x buffer : List ℕ) (r : Fed) : Type 0 where
  pub frames : frames_of k (s ++ x) ≡ frames_of k s ++ r.frames
  pub hunter : r.hunter ≡ holding k (waiting_of k (s ++ x))
  pub left : r.buffer ≡ last_of buffer r.frames
  pub size : length r.buffer ≡ 1024

pub fed-further : (k : ℕ) (s x buffer : List ℕ) → k ≤ 3 → length buffer ≡ 1024 → Further k s x buffer (feed (holding k (waiting_of k s)) x buffer)
unfolding feed frames_of waiting_of
fed-further k s x buffer l room =
    let c = cuts k s in
    let w = (cut k s).waiting in
    further (feed-right (suc (length x)) k w x buffer l (still k c) room (omega arith))
  where
    further : {r : Fed} → Right k ((cut k s).waiting ++ x) buffer r → Further k s x buffer r
    further {r} p =
        let c = cuts k s in
        let d = cut-is k (division k x c p.cuts) in
        record {
          frames = ap frames_in d.0 ∙ frames-append (cut k s).pieces p.pieces ∙ ap (λ (fs : List (List ℕ)). frames_in (cut k s).pieces ++ fs) (sym p.same);
          hunter = p.holds ∙ ap (holding k) (sym d.1);
          left = p.left;
          size = ap length p.left ∙ lasts r.frames p.pieces k buffer p.cuts p.same room;
        }
