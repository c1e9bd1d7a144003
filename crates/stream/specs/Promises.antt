-- What is promised of streams and hunters, one sentence after the other, as one statement. That it holds is proved (proofs/Promised.antt).
-- The calls are the definitions that their contracts cite (Hunter.antt). Assumes nothing.
use Rattle.std.specs.Prelude.{◌≡◌, true, false, ◌↔◌, ℕ, ◌+◌, ◌*◌, ◌≤◌, ◌<◌, length, take}
use mathlib.Core.List.{List, [], ◌∷◌, ◌++◌, map, flatten, Memᴰ}
use Rattle.octets.specs.Number.{Octets, part}
use Rattle.frame.specs.declared.Channel.{Channel}
use Rattle.frame.specs.Header.{marker, derandomised, frame_of}
use Rattle.frame.specs.Refusals.{examined, examined_header}
use Rattle.stream.specs.declared.Hunter.{Hunter}
use Rattle.stream.specs.Stream.{Cuts, cut, octets_in, over_in, frames_of, waiting_of}
use Rattle.stream.specs.Hunter.{held, holding, no_hunter, begun_by, Sound, hunt_gives, hunted}
use Rattle.stream.specs.Feed.{feed_all, last_of}
use Rattle.stream.specs.Plainly.{FramesAt, StreamPlainly, SoundPlainly, AllZero}

-- a call of a run: a portion, and the buffer lent
pub record Call : Type 0 where
  pub portion : List ℕ
  pub buffer : List ℕ

-- the hunter after some calls, handed back from each to the next
unfoldable pub after : Hunter → List Call → Hunter
after h [] = h
after h (c ∷ cs) = after (hunted h c.portion c.buffer).hunter cs

-- "k chosen from 0 to 3 (over 3: refusal 15)"
pub record Begins (k : ℕ) : Type 0 where
  pub good : k ≤ 3 → begun_by k ≡ record { answer = 0; hunter = holding k [] }
  pub over-3 : 3 < k → begun_by k ≡ record { answer = 15; hunter = no_hunter }

-- each number exactly when, the lowest that applies
pub record Answers (h : Hunter) (xs buffer : List ℕ) : Type 0 where
  pub one : ((hunted h xs buffer).answer ≡ 1) ↔ (length buffer ≡ 1024 → ⊥)
  pub two : ((hunted h xs buffer).answer ≡ 2) ↔ ((length buffer ≡ 1024) × (Sound h → ⊥))
  pub none : ((hunted h xs buffer).answer ≡ 0) ↔ ((length buffer ≡ 1024) × Sound h)
  -- a refused call changes nothing and takes nothing
  pub refused : ((hunted h xs buffer).answer ≡ 0 → ⊥) → hunted h xs buffer ≡ hunt_gives (hunted h xs buffer).answer 0 false h buffer

-- "A call stops after one frame and says how many octets it took"
pub record Takes (h : Hunter) (xs buffer : List ℕ) : Type 0 where
  pub within : (hunted h xs buffer).taken ≤ length xs
  -- without a frame all octets are taken, and the buffer stays
  pub all : (hunted h xs buffer).found ≡ false → ((hunted h xs buffer).taken ≡ length xs) × ((hunted h xs buffer).buffer ≡ buffer)
  -- with one some are taken, and behind it no octet waits
  pub some : (hunted h xs buffer).found ≡ true → (0 < (hunted h xs buffer).taken) × ((hunted h xs buffer).hunter ≡ holding h.k [])

-- frames one behind the other, as a sender sends them: each 1,024 octets that begin with the marker
unfoldable pub InStep : List (List ℕ) → Type 0
InStep [] = Unit
InStep (f ∷ fs) = (length f ≡ 1024) × (take 4 f ≡ marker) × InStep fs

-- nothing is lost and nothing made up: what was passed over, the frames as they came and what waits are the stream, in order
pub record NothingLost (k : ℕ) (xs : List ℕ) : Type 0 where
  pub cuts : Cuts k xs (cut k xs).pieces (cut k xs).waiting
  pub joined : octets_in (cut k xs).pieces ++ waiting_of k xs ≡ xs
  pub counted : over_in (cut k xs).pieces + 1024 * length (frames_of k xs) + length (waiting_of k xs) ≡ length xs

pub record Promises : Type 0 where
  pub begins : (k : ℕ) → Begins k
  -- "and then the hunter is all zero, which is not sound"
  pub zero : AllZero no_hunter
  pub zero-unsound : Sound no_hunter → ⊥
  -- what a sound hunter is, once more in its octets
  pub sound-plainly : (h : Hunter) → length h.octets ≡ 1024 → Octets h.octets → Sound h ↔ SoundPlainly h
  pub answers : (h : Hunter) (xs buffer : List ℕ) → length h.octets ≡ 1024 → Answers h xs buffer
  pub takes : (h : Hunter) (xs buffer : List ℕ) → length buffer ≡ 1024 → Sound h → Takes h xs buffer
  -- a sound hunter stays sound; "from `begin` answered by 0, with the hunter handed back, no hunt is answered by 2"
  pub sound : (k : ℕ) → k ≤ 3 → (cs : List Call) → Sound (after (begun_by k).hunter cs)
  pub never-2 : (k : ℕ) → k ≤ 3 → (cs : List Call) (xs buffer : List ℕ) → (hunted (after (begun_by k).hunter cs) xs buffer).answer ≡ 2 → ⊥
  -- and none is sound but those that a begun hunter can become: what waits in it, fed to a fresh one, gives it
  pub reached : (h : Hunter) (buffer : List ℕ) → length buffer ≡ 1024 → Sound h → (feed_all (begun_by h.k).hunter (held h ∷ []) buffer).hunter ≡ h
  -- "However the stream is divided, zero-length portions too, the frames and the octets left waiting are the same."
  pub divided : (k : ℕ) (xs : List (List ℕ)) (buffer : List ℕ) → k ≤ 3 → length buffer ≡ 1024
      → feed_all (begun_by k).hunter xs buffer
      ≡ record { frames = frames_of k (flatten xs); hunter = holding k (waiting_of k (flatten xs)); buffer = last_of buffer (frames_of k (flatten xs)) }
  pub two-divisions : (k : ℕ) (xs ys : List (List ℕ)) (buffer : List ℕ) → k ≤ 3 → length buffer ≡ 1024 → flatten xs ≡ flatten ys
      → feed_all (begun_by k).hunter xs buffer ≡ feed_all (begun_by k).hunter ys buffer
  -- "Hunt for the marker at octet positions": each frame at the first marker behind the one before it, and no other places are so
  pub plainly : (k : ℕ) (xs : List ℕ) → Octets xs → StreamPlainly k xs
  pub one_way : (k : ℕ) (xs : List ℕ) {a w v : ℕ} {ps qs : List ℕ} → FramesAt k xs a ps w → FramesAt k xs a qs v → (ps ≡ qs) × (w ≡ v)
  pub nothing-lost : (k : ℕ) (xs : List ℕ) → NothingLost k xs
  -- what was sent frame behind frame comes out so, for every k
  pub in_step : (k : ℕ) (fs : List (List ℕ)) → InStep fs → (frames_of k (flatten fs) ≡ fs) × (waiting_of k (flatten fs) ≡ [])
  -- for k = 0 a frame is 1,024 octets of the stream as they stand
  pub as-they-stand : (xs : List ℕ) → Octets xs → {ps : List ℕ} {w : ℕ} → FramesAt 0 xs 0 ps w → frames_of 0 xs ≡ map (λ (p : ℕ). part p 1024 xs) ps
  -- "marker put right": no station refuses a frame by 3 or 4; it goes on to the header
  pub not-refused : (k : ℕ) (xs f : List ℕ) → Memᴰ f (frames_of k xs) → (craft : ℕ) (watched : List Channel)
      → examined craft watched f ≡ examined_header craft watched (frame_of (derandomised f))
