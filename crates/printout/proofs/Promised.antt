-- What is promised of the text, proved. Assumes nothing.
use mathlib.Core.Path.{◌≡◌, sym, ap, ◌∙◌}
use mathlib.Core.List.{List}
use Prim.Native.Nat.{ℕ, ◌<◌}
use native.Mathlib.Decide.{dec_lt}
use native.Mathlib.Omega.{arith}
use lib.ListN.{length, take, length-map}
use lib.Seq.{take_all, length-take-le}
use Rattle.octets.specs.Number.{Octets}
use Rattle.octets.specs.Choice.Decides.{fails}
use Rattle.octets.proofs.Decide.{decides-once}
use Rattle.octets.proofs.Numbers.{octets-take}
use Rattle.catalogue.specs.declared.Entry.{Entry}
use Rattle.catalogue.specs.Catalogue.{file_row, written, Good, Catalogue, listed}
use Rattle.catalogue.proofs.Lists.{list-rows}
use Rattle.catalogue.proofs.Exact.{files-read, images-read, channels-read, written-accepted, accepts-exactly}
use Rattle.catalogue.proofs.Lengths.{longest}
use Rattle.printout.specs.Printed.{refused_line, printed}
use Rattle.printout.specs.Promises.{lines_of, Promises}

list : (es : List Entry) → Good es → printed (written es) ≡ lines_of es
unfolding printed listed
list es g = rw (written-accepted g, files-read g, images-read g, channels-read g, list-rows 0 es, length-map es file_row)

none : (xs : List ℕ) → Octets xs → (Catalogue xs → ⊥) → printed xs ≡ refused_line
unfolding printed
none xs o n = rw (decides-once (accepts-exactly xs o) (fails n))

-- no catalogue has over 22,723 octets
too_long : (xs : List ℕ) → 22723 < length xs → Catalogue xs → ⊥
too_long xs h c = omega (arith, ap length c.2, longest c.0 c.1.few)

cut_at : (n : ℕ) → 22723 < n → (xs : List ℕ) → Octets xs → printed (take n xs) ≡ printed xs
cut_at n h xs o = go (dec_lt n (length xs))
  where
    go : Dec (n < length xs) → printed (take n xs) ≡ printed xs
    go (yes l) =
        none (take n xs) (octets-take xs n o) (too_long (take n xs) (omega (arith, length-take-le n xs (omega arith))))
        ∙ sym (none xs o (too_long xs (omega arith)))
    go (no l) = ap printed (take_all n xs (omega arith))

pub promised : Promises
promised = record { list = list; none = none; cut = cut_at 32768 (omega arith) }
