-- The buffers have the lengths that the loop keeps: the event list has room for 300 events. Assumes nothing.
use Prim.Native.Nat.{ℕ}
use borrow.Author.Rules.{rules}
use lib.ListN.{length-replicate}
use Rattle.receive.proofs.main.Goals as goal

pub loop-frames-init : goal.loop-frames-init
loop-frames-init c = (search rules, search rules, length-replicate {A = ℕ} 900 0, search rules, search rules)
