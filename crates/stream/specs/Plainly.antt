-- The stream in other words: by the places of its frames, each at the first marker behind the frame before it; and the hunter, octet by octet.
-- Assumes nothing.
use Rattle.std.specs.Prelude.{◌≡◌, true, false, List, [], ◌∷◌, map, ◌⊎◌, ℕ, ◌+◌, ◌≤◌, ◌<◌, length, get_or, drop}
use Rattle.std.specs.Int.Bits.{bit_xor}
use Rattle.std.specs.Int.Count.{ones}
use Rattle.octets.specs.Number.{part}
use Rattle.stream.specs.declared.Hunter.{Hunter}
use Rattle.stream.specs.Stream.{frames_of, waiting_of}

-- the wrong bits of one octet
abbrev pub wrong_in : ℕ → ℕ → ℕ
wrong_in x right = ones (bit_xor x right)

-- at place p stand four octets that are 1A CF FC 1D but for k wrong bits at most, counted octet by octet
pub record MarkerAt (k : ℕ) (xs : List ℕ) (p : ℕ) : Type 0 where
  pub there : p + 4 ≤ length xs
  pub close : wrong_in (get_or xs p 0) 0x1a + wrong_in (get_or xs (p + 1) 0) 0xcf + wrong_in (get_or xs (p + 2) 0) 0xfc + wrong_in (get_or xs (p + 3) 0) 0x1d ≤ k

-- no marker begins from place a on, before place b
abbrev pub NoMarker : ℕ → List ℕ → ℕ → ℕ → Type 0
NoMarker k xs a b = (q : ℕ) → a ≤ q → q < b → MarkerAt k xs q → ⊥

-- `FramesAt k xs a ps w`: from place a on, frames begin at the places ps, and the octets that wait begin at place w
pub data FramesAt (k : ℕ) (xs : List ℕ) : ℕ → List ℕ → ℕ → Type 0 where
  -- a frame: the first marker is at p, and 1,024 octets are there from it on
  next : {a : ℕ} (p : ℕ) {ps : List ℕ} {w : ℕ} → a ≤ p → NoMarker k xs a p → MarkerAt k xs p → p + 1024 ≤ length xs
      → FramesAt k xs (p + 1024) ps w → FramesAt k xs a (p ∷ ps) w
  -- the first marker is at w, and of its frame a part is there
  begun : {a : ℕ} (w : ℕ) → a ≤ w → NoMarker k xs a w → MarkerAt k xs w → length xs < w + 1024 → FramesAt k xs a [] w
  -- there is no marker: the last three octets wait, or fewer where there are no more
  none : {a : ℕ} (w : ℕ) → a ≤ w → NoMarker k xs a (length xs) → (w + 3 ≡ length xs) ⊎ ((w ≡ a) × (length xs < a + 3)) → FramesAt k xs a [] w

-- the frame at place p: the marker, and the octets behind it as they came
abbrev pub frame_at : List ℕ → ℕ → List ℕ
frame_at xs p = 0x1a ∷ 0xcf ∷ 0xfc ∷ 0x1d ∷ part (p + 4) 1020 xs

-- what the stream xs gives, by places
pub record StreamPlainly (k : ℕ) (xs : List ℕ) : Type 0 where
  pub places : List ℕ
  pub rest : ℕ
  pub stands : FramesAt k xs 0 places rest
  pub frames : frames_of k xs ≡ map (frame_at xs) places
  pub waiting : waiting_of k xs ≡ drop rest xs

-- a sound hunter, field by field and octet by octet
pub record SoundPlainly (h : Hunter) : Type 0 where
  pub begun : h.begun ≡ true
  pub limit : h.k ≤ 3
  pub few : h.waiting ≤ 1023
  pub marked : (h.waiting < 4) ⊎ MarkerAt h.k h.octets 0
  pub zeros : (i : ℕ) → h.waiting ≤ i → get_or h.octets i 0 ≡ 0

-- "all zero"
pub record AllZero (h : Hunter) : Type 0 where
  pub begun : h.begun ≡ false
  pub k : h.k ≡ 0
  pub waiting : h.waiting ≡ 0
  pub octets : (i : ℕ) → get_or h.octets i 0 ≡ 0
