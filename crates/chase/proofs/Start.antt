-- What a run of `chase` starts from, in other words than specs/Run's: an H before any other command shows a hunter of zeros, and a hunt before any B is
-- refused by 2, since nobody has begun that hunter. Assumes nothing.
use mathlib.Core.Path.{◌≡◌, refl}
use mathlib.Core.List.{List}
use Prim.Native.Nat.{ℕ}
use lib.ListN.{length, replicate}
use Rattle.stream.specs.Hunter.{is_sound, hunted}
use Rattle.chase.specs.Printed.{check_line, hunter_line}
use Rattle.chase.specs.Run.{at_start}

pub shown-first : hunter_line at_start.hunter ≡ check_line 0x48 0 0 0 (replicate 1024 0)
shown-first = refl

pub hunt-refused : (portion buffer : List ℕ) → length buffer ≡ 1024 → (hunted at_start.hunter portion buffer).answer ≡ 2
unfolding hunted is_sound
hunt-refused portion buffer h = rw h refl
