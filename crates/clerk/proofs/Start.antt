-- What a run of `clerk` starts from, in other words than specs/Run's: an H before any other command says that nothing is lent, and that the catalogue has no
-- octets. Assumes nothing.
use mathlib.Core.Path.{◌≡◌, refl}
use mathlib.Core.List.{List, [], ◌∷◌}
use Prim.Native.Nat.{ℕ}
use Rattle.crc.specs.Crc.{crc_of}
use Rattle.script.specs.declared.Command.{Command}
use Rattle.clerk.specs.Printed.{answered, said}
use Rattle.clerk.specs.Run.{at_start}

pub shown-first : (x : Command) (payload buffer : List ℕ) → x.letter ≡ 0x48 → said x payload (at_start buffer) ≡ 0 ∷ 0 ∷ crc_of buffer ∷ []
unfolding said answered
shown-first x payload buffer h = rw h refl
