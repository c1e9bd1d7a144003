-- `are_desks_sound` meets its contract. The loop's invariant: the octets of the first n desks are sound exactly if those from number i on
-- are. Assumes nothing.
use mathlib.Core.List.{List}
use Prim.Native.Nat.{ℕ}
use lib.ListN.{take}
use Rattle.state.specs.declared.Desk.{Desk}
use Rattle.state.specs.Decision.{desks_held}
use Rattle.state.proofs.Walk.{Left}
use Rattle.desks.proofs.are_desks_sound.Given as goal

abbrev pub invariant-loop-i : goal.invariant-loop-i
invariant-loop-i l =
    Left (λ (j : ℕ) (ds : List Desk). desks_held j ds l.desks) (desks_held 0 (take l.n l.positions) l.desks) l.n l.positions l.i
