-- `script::whole::follow` meets its contract. Assumes nothing.
use mathlib.Core.Path.{◌≡◌}
use Prim.Native.Nat.{◌-◌}
use lib.ListN.{length}
use Rattle.script.specs.Follow.{with_text}
use Rattle.script.proofs.Following.{Following}
use Rattle.script.proofs.whole.follow.Given as goal

abbrev pub invariant-loop-at : goal.invariant-loop-at
invariant-loop-at g l =
    let p = g.P.Obeys in
    Following p.payload_of p.carried_out l.initial.owned l.script l.owned l.n l.at × p.Fits l.owned × (length l.out ≡ p.room)
    × Following p.payload_of (with_text p.carried_out p.printed) (l.initial.owned, l.initial.out) l.script (l.owned, l.out) l.n l.at

abbrev pub decreases-loop-at : goal.decreases-loop-at
decreases-loop-at g l = length l.script - l.at
