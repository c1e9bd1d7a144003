-- A stream fed to a hunter in portions. Assumes nothing.
use Rattle.std.specs.Prelude.{true, false, List, [], ◌∷◌, ◌++◌, ℕ, zero, suc, length, drop}
use Rattle.stream.specs.declared.Hunter.{Hunter}
use Rattle.stream.specs.Hunter.{HuntOutcome, hunted}

-- the frames handed out, in order, and the hunter and the buffer handed back
pub record Fed : Type 0 where
  pub frames : List (List ℕ)
  pub hunter : Hunter
  pub buffer : List ℕ

-- after a call that found no frame, and after one that found one
abbrev pub no_frame : HuntOutcome → Fed
no_frame o = record { frames = []; hunter = o.hunter; buffer = o.buffer }

abbrev pub with_frame : List ℕ → Fed → Fed
with_frame f r = record { frames = f ∷ r.frames; hunter = r.hunter; buffer = r.buffer }

-- one portion, "each again with its rest until it is all taken", by n calls at most
unfoldable pub feed_in : ℕ → Hunter → List ℕ → List ℕ → Fed
feed_in zero h xs buffer = record { frames = []; hunter = h; buffer = buffer }
feed_in (suc n) h xs buffer =
    let o : HuntOutcome = hunted h xs buffer in
    elim o.found [ true ↦ with_frame o.buffer (feed_in n o.hunter (drop o.taken xs) o.buffer) | false ↦ no_frame o ]

unfoldable pub feed : Hunter → List ℕ → List ℕ → Fed
feed h xs buffer = feed_in (suc (length xs)) h xs buffer

abbrev pub after_frames : List (List ℕ) → Fed → Fed
after_frames fs r = record { frames = fs ++ r.frames; hunter = r.hunter; buffer = r.buffer }

-- portion after portion, hunter and buffer handed back each time
unfoldable pub feed_all : Hunter → List (List ℕ) → List ℕ → Fed
feed_all h [] buffer = record { frames = []; hunter = h; buffer = buffer }
feed_all h (x ∷ xs) buffer = after_frames (feed h x buffer).frames (feed_all (feed h x buffer).hunter xs (feed h x buffer).buffer)

-- the last of some frames, or what stood in the buffer where there is none
abbrev pub last_of : List ℕ → List (List ℕ) → List ℕ
last_of buffer [] = buffer
last_of buffer (f ∷ fs) = last_of f fs
