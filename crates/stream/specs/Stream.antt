-- A raw stream of octets: its frames, the octets passed over, and the octets that wait. No portion is in sight. Assumes nothing.
use Rattle.std.specs.Prelude.{◌≡◌, Bool, not, List, [], ◌∷◌, ◌++◌, ℕ, zero, suc, ltb, leb, length, take, drop, get_or, if◌then◌else◌}
use Rattle.std.specs.Int.Bits.{bit_xor}
use Rattle.std.specs.Int.Count.{ones}
use Rattle.octets.specs.Number.{number}
use Rattle.frame.specs.Header.{marker}

-- "wrong bits out of 32": the count of ones of the exclusive or of the window, the first four octets, and the marker
unfoldable pub wrong_bits : List ℕ → ℕ
wrong_bits xs = ones (bit_xor (number (take 4 xs)) (number marker))

-- "one with up to k wrong bits out of 32 is taken"
unfoldable pub is_marker : ℕ → List ℕ → Bool
is_marker k xs = leb (wrong_bits xs) k

-- "Hunt for the marker at octet positions": what is done at a place of the stream, by the octets from there on. Under four cannot be judged and
-- wait; a place with no marker is passed over; behind a marker a frame waits until it is whole.
pub data Here : Type 0 where
  Waits : Here
  Passes : Here
  Whole : Here

unfoldable pub here : ℕ → List ℕ → Here
here k xs =
    if ltb (length xs) 4 then Waits
    else if not (is_marker k xs) then Passes
    else if ltb (length xs) 1024 then Waits
    else Whole

-- a stream is cut in octets passed over and frames
pub data Piece : Type 0 where
  over : ℕ → Piece
  frame : List ℕ → Piece

-- `Cuts k xs ps w`: hunting through xs gives the pieces ps, in order, and leaves w waiting
pub data Cuts (k : ℕ) : List ℕ → List Piece → List ℕ → Type 0 where
  waits : {xs : List ℕ} → here k xs ≡ Waits → Cuts k xs [] xs
  passes : {xs : List ℕ} {ps : List Piece} {w : List ℕ} → here k xs ≡ Passes → Cuts k (drop 1 xs) ps w → Cuts k xs (over (get_or xs 0 0) ∷ ps) w
  -- "The 1,024 octets from there .. are one frame; if the next position isn't a marker by the same rule, hunt from there."
  whole : {xs : List ℕ} {ps : List Piece} {w : List ℕ} → here k xs ≡ Whole → Cuts k (drop 1024 xs) ps w → Cuts k xs (frame (take 1024 xs) ∷ ps) w

-- the same as a function: how a stream is cut, in n steps at most
pub record Cut : Type 0 where
  pub pieces : List Piece
  pub waiting : List ℕ

abbrev pub before : Piece → Cut → Cut
before p c = record { pieces = p ∷ c.pieces; waiting = c.waiting }

unfoldable pub cut_in : ℕ → ℕ → List ℕ → Cut
cut_in zero k xs = record { pieces = []; waiting = xs }
cut_in (suc n) k xs =
    elim (here k xs) [
      | Waits ↦ record { pieces = []; waiting = xs }
      | Passes ↦ before (over (get_or xs 0 0)) (cut_in n k (drop 1 xs))
      | Whole ↦ before (frame (take 1024 xs)) (cut_in n k (drop 1024 xs))
    ]

unfoldable pub cut : ℕ → List ℕ → Cut
cut k xs = cut_in (suc (length xs)) k xs

-- "marker put right"
unfoldable pub righted : List ℕ → List ℕ
righted f = marker ++ drop 4 f

abbrev pub frames_in : List Piece → List (List ℕ)
frames_in [] = []
frames_in (over x ∷ ps) = frames_in ps
frames_in (frame f ∷ ps) = righted f ∷ frames_in ps

-- the octets of some pieces, as they came
abbrev pub octets_in : List Piece → List ℕ
octets_in [] = []
octets_in (over x ∷ ps) = x ∷ octets_in ps
octets_in (frame f ∷ ps) = f ++ octets_in ps

-- how many octets are passed over
abbrev pub over_in : List Piece → ℕ
over_in [] = 0
over_in (over x ∷ ps) = suc (over_in ps)
over_in (frame f ∷ ps) = over_in ps

-- the frames of a stream, and what is left waiting
unfoldable pub frames_of : ℕ → List ℕ → List (List ℕ)
frames_of k xs = frames_in (cut k xs).pieces

unfoldable pub waiting_of : ℕ → List ℕ → List ℕ
waiting_of k xs = (cut k xs).waiting
