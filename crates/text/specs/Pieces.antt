-- Pieces of text, in ASCII, and what it means that a piece was put in a lent buffer. Assumes nothing.
use Rattle.std.specs.Prelude.{◌≡◌, Bool, List, [], ◌∷◌, ◌++◌, ℕ, ◌+◌, eqb, length, if◌then◌else◌}
use Prim.Native.Char.{code}
use Prim.Native.String.{String}
use Prim.Native.String as string
use Rattle.io.specs.Digits.{last_digits}
use Rattle.octets.specs.Buffer.{put}

-- a word, as the octets of its letters
abbrev pub ascii : String → List ℕ
ascii string.[] = []
ascii (string.◌∷◌ c s) = code c ∷ ascii s

-- "without leading zeros": a zero in front of another digit goes
unfoldable pub unled : List ℕ → List ℕ
unled [] = []
unled (d ∷ []) = d ∷ []
unled (d ∷ e ∷ ds) = if eqb d 0x30 then unled (e ∷ ds) else d ∷ e ∷ ds

-- "Numbers are decimal without leading zeros": a number of 64 bits, which has 20 digits at most
unfoldable pub decimal : ℕ → List ℕ
decimal v = unled (last_digits 10 20 v)

-- "one space between": a space, and a number behind it
unfoldable pub spaced : ℕ → List ℕ
spaced v = 0x20 ∷ decimal v

-- a number that may be negative, behind a space: its sign and its magnitude
unfoldable pub spaced_signed : Bool → ℕ → List ℕ
spaced_signed negative magnitude = if negative then (0x20 ∷ 0x2D ∷ []) ++ decimal magnitude else spaced magnitude

-- "octets in lower-case hexadecimal, two digits each"
unfoldable pub in_hex : List ℕ → List ℕ
in_hex [] = []
in_hex (x ∷ xs) = last_digits 16 2 x ++ in_hex xs

-- a piece was put in a buffer from place at on: the buffer after it, and where the piece ends
pub record Written (before : List ℕ) (at : ℕ) (piece after : List ℕ) (end : ℕ) : Type 0 where
  pub holds : after ≡ put before at piece
  pub ends : end ≡ at + length piece
