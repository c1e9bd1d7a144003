-- How many octets the parts of a frame have. Assumes nothing.
use mathlib.Core.Path.{◌≡◌, ap, ◌∙◌}
use mathlib.Core.List.{List}
use Prim.Native.Nat.{ℕ}
use native.Mathlib.Omega.{arith}
use lib.ListN.{length, drop, length-drop}
use lib.Seq.{take_all}
use Rattle.octets.specs.Number.{part}
use Rattle.octets.proofs.Lists.{whole_part}
use Rattle.noise.specs.Noise.{mixed}
use Rattle.noise.proofs.Mixing.{length-mixed}
use Rattle.frame.specs.Header.{derandomised, zone_of}

-- what is coded is all that stands behind the marker
pub coded : (f : List ℕ) → length f ≡ 1024 → mixed (part 4 1020 f) ≡ derandomised f
unfolding derandomised
coded f h = ap mixed (take_all 1020 (drop 4 f) (omega (arith, length-drop 4 f)))

pub length-derandomised : (f : List ℕ) → length f ≡ 1024 → length (derandomised f) ≡ 1020
unfolding derandomised
length-derandomised f h = length-mixed (drop 4 f) ∙ omega (arith, length-drop 4 f)

pub length-zone : (plain : List ℕ) → length plain ≡ 1020 → length (zone_of plain) ≡ 884
unfolding zone_of
length-zone plain h = whole_part plain 8 884 (omega arith)
