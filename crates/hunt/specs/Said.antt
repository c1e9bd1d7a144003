-- The one line that a run says on standard error. Assumes nothing.
use Rattle.std.specs.Prelude.{◌≡◌, List, ◌++◌, ℕ, ◌≤◌, ◌<◌, length}
use Rattle.octets.specs.Buffer.{put}
use Rattle.text.specs.Pieces.{ascii, spaced}
use Rattle.text.specs.Lines.{spaced_three, newline}
use Rattle.stream.specs.Stream.{cut, over_in, frames_of, waiting_of}

-- "`hunt: 15, k is 0 to 3`"
abbrev pub refusal_line : ℕ → List ℕ
refusal_line answer = ascii "hunt:" ++ spaced answer ++ (ascii ", k is 0 to 3" ++ newline)

-- "`END frames passed waiting`"
abbrev pub end_line : ℕ → ℕ → ℕ → List ℕ
end_line frames passed waiting = ascii "END" ++ spaced_three frames passed waiting ++ newline

-- "the frames found, the octets passed over, and the octets that wait", of the stream xs
abbrev pub stream_line : ℕ → List ℕ → List ℕ
stream_line k xs = end_line (length (frames_of k xs)) (over_in (cut k xs).pieces) (length (waiting_of k xs))

-- the lines that a run with k can say: the refusal if k is over 3, else that of a stream
pub data Says (k : ℕ) : List ℕ → Type 0 where
  refused : 3 < k → Says k (refusal_line 15)
  ended : k ≤ 3 → (xs : List ℕ) → Says k (stream_line k xs)

-- such a line was put at the start of a buffer
pub record Tells (k : ℕ) (before after : List ℕ) : Type 0 where
  pub line : List ℕ
  pub says : Says k line
  pub holds : after ≡ put before 0 line
