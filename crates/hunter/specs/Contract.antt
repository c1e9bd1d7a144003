-- What the functions of the hunt are handed, and what they give. Assumes nothing.
use Rattle.std.specs.Prelude.{◌≡◌, true, false, List, [], ◌∷◌, ◌++◌, ℕ, ◌+◌, ◌-◌, ◌/◌, ◌%◌, ◌≤◌, ◌<◌, ltb, length, take, drop, replicate, if◌then◌else◌}
use Rattle.stream.specs.declared.Hunter.{Hunter}
use Rattle.stream.specs.declared.Hunted.{Hunted}
use Rattle.stream.specs.Stream.{righted}
use Rattle.stream.specs.Hunter.{held, holding, Sound, HuntOutcome, hunt_gives}

-- the four octets of a number, zeros after them
abbrev pub four_of : ℕ → List ℕ
four_of v = v / 16777216 ∷ v / 65536 % 256 ∷ v / 256 % 256 ∷ v % 256 ∷ []

unfoldable pub spread_of : ℕ → List ℕ
spread_of v = four_of v ++ replicate 1020 0

-- no frame: all of the portion is taken, and these octets wait
abbrev pub none_found : ℕ → ℕ → List ℕ → ℕ → Hunted
none_found k waiting octets taken =
    record { answer = 0; taken = taken; found = false; hunter = record { begun = true; k = k; waiting = waiting; octets = octets } }

-- from a marker that waits, with the portion from place `at` on behind it
abbrev pub filling : Hunter → ℕ → List ℕ → List ℕ
filling h at xs = held h ++ drop at xs

unfoldable pub filled : Hunter → ℕ → List ℕ → List ℕ → HuntOutcome
filled h at xs buffer =
    if ltb (length (filling h at xs)) 1024 then hunt_gives 0 (length xs) false (holding h.k (filling h at xs)) buffer
    else hunt_gives 0 (at + (1024 - h.waiting)) true (holding h.k []) (righted (take 1024 (filling h at xs)))

-- what `fill` is handed
pub record Settled (h : Hunter) (xs : List ℕ) (at : ℕ) (buffer : List ℕ) : Type 0 where
  pub form : h ≡ holding h.k (held h)
  pub less : h.waiting < 1024
  pub more : 4 ≤ h.waiting
  pub inside : at ≤ length xs
  pub room : length buffer ≡ 1024

-- what `slide` is handed
pub record Sliding (h : Hunter) (xs buffer : List ℕ) : Type 0 where
  pub sound : Sound h
  pub few : h.waiting < 4
  pub enough : 4 ≤ h.waiting + length xs
  pub room : length buffer ≡ 1024

-- what `search` is handed
pub record Ready (h : Hunter) (buffer : List ℕ) : Type 0 where
  pub sound : Sound h
  pub room : length buffer ≡ 1024
