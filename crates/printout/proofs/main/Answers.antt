-- `printout::main` is safe and ends. Assumes nothing.
use Prim.Native.Nat.{ℕ}
use lib.ListN.{length-replicate}
use Rattle.printout.proofs.main.Goals as goal

pub slice_bounds-read-end : goal.slice_bounds-read-end
slice_bounds-read-end c = length-replicate {A = ℕ} 32768 0

pub slice_bounds-read-end-2 : goal.slice_bounds-read-end-2
slice_bounds-read-end-2 c = length-replicate {A = ℕ} 283147 0

pub read-requires : goal.read-requires
read-requires c = (length-replicate {A = ℕ} 32768 0, length-replicate {A = ℕ} 283147 0)
