-- `pages::copy_out` meets its contract. The invariant: what is left to copy, put behind what was copied, gives the buffer promised; and the
-- blocks ahead have the octets that are still wanted, so that none is wanted behind the last block. Assumes nothing.
use native.Mathlib.Omega.{arith}
use Rattle.pages.proofs.Copying.{copying-first, copying-past, copying-over, copying-on, copying-full, copying-all}
use Rattle.pages.proofs.copy_out.Goals as goal
use Rattle.pages.proofs.copy_out.Goals.{then-owner-b+then-skip-lt-BLOCK, then-owner-b+else-skip-lt-BLOCK, else-owner-b}

pub loop-b-init : goal.loop-b-init
loop-b-init c =
    let h = c.requires in
    copying-first _ _ _ _ _ _ h.n_in_bounds.0 h.n_in_bounds.1 h.buffer_bound

pub returns-then-buffer-done : goal.returns-then-buffer-done
returns-then-buffer-done c = copying-all c.loop-b.invariant (omega arith)

pub loop-b-preserved : goal.loop-b-preserved
loop-b-preserved c =
    let m = c.loop-b.invariant in
    elim c.if-owner-b.branch [
      | then-owner-b+then-skip-lt-BLOCK w ↦
          rw (w.buffer-is, w.skip-is, w.done-is) (copying-on m (omega arith) (omega arith) _ (omega arith) w.least-size.ensures w.copy.ensures)
      | then-owner-b+else-skip-lt-BLOCK w ↦
          rw (w.buffer-is, w.skip-is, w.done-is) (copying-over m (omega arith) (omega arith) (omega arith))
      | else-owner-b w ↦ rw (w.buffer-is, w.skip-is, w.done-is) (copying-past m (omega arith) (λ q. omega arith))
    ]

pub shape_of-buffer : goal.shape_of-buffer
shape_of-buffer c = c.loop-b.invariant.long

pub returns : goal.returns
returns c = copying-all c.loop-b.invariant (copying-full c.loop-b.invariant (omega arith))
