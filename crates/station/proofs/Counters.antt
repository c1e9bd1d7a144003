-- The file counter stands in the first two octets, and is the same wherever these are. Assumes nothing.
use mathlib.Core.Path.{◌≡◌, sym, ap, ◌∙◌}
use mathlib.Core.List.{List}
use Prim.Native.Nat.{ℕ, ◌≤◌}
use native.Mathlib.Omega.{arith}
use lib.ListN.{length, take}
use lib.Seq.{take-take}
use Rattle.octets.specs.Number.{number, number_at}
use Rattle.transport.specs.Length.{transport_of}

-- read from these two alone
pub counter-two : (xs : List ℕ) → number_at (take 2 xs) 0 2 ≡ (transport_of xs).counter
unfolding number_at transport_of
counter-two xs = ap number (take-take 2 2 xs (omega arith))

-- of octets that begin with others
pub counter-front : (xs d : List ℕ) → 2 ≤ length d → take (length d) xs ≡ d → (transport_of xs).counter ≡ (transport_of d).counter
unfolding number_at transport_of
counter-front xs d two front = ap number (sym (take-take 2 (length d) xs two) ∙ ap (take 2) front)
