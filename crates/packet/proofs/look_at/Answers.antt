-- `packet::look_at` meets its contract, by its tests and the contracts of `read` and `is_bad`. Assumes nothing.
use borrow.Author.Tests.{le-ltb}
use Rattle.octets.proofs.Tests.{tests}
use Rattle.packet.specs.Header.{look_of}
use Rattle.packet.proofs.look_at.Goals as goal

pub returns-then-s-lt-HEADER : goal.returns-then-s-lt-HEADER
unfolding look_of
returns-then-s-lt-HEADER c = search tests

pub returns-then-is_bad : goal.returns-then-is_bad
unfolding look_of
returns-then-is_bad c =
    rw (le-ltb _ _ c.if-s-lt-HEADER.false, ← c.read-p.ensures.value, ← c.is_bad.ensures, c.if-is_bad.true)

pub returns : goal.returns
unfolding look_of
returns c =
    rw (le-ltb _ _ c.if-s-lt-HEADER.false, ← c.read-p.ensures.value, ← c.is_bad.ensures, c.if-is_bad.false)
