-- What is counted of an input that is read portion by portion. Assumes nothing.
use Rattle.std.specs.Prelude.{◌≡◌, List, [], ℕ, ◌≤◌, length}
use Rattle.stream.specs.declared.Hunter.{Hunter}
use Rattle.stream.specs.Stream.{frames_of, waiting_of}
use Rattle.stream.specs.Hunter.{holding}
use Rattle.hunt.specs.declared.Tally.{Tally}

-- a hunter that waits for its first octet
pub record Fresh (h : Hunter) : Type 0 where
  pub limit : h.k ≤ 3
  pub form : h ≡ holding h.k []

-- the numbers of a stream: its octets, its frames, and the octets that wait
pub record Tallied (k : ℕ) (t : Tally) : Type 0 where
  pub stream : List ℕ
  pub read : t.read ≡ length stream
  pub frames : t.frames ≡ length (frames_of k stream)
  pub waiting : t.waiting ≡ length (waiting_of k stream)
