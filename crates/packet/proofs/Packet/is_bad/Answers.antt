-- `packet::Packet::is_bad` meets its contract, test after test. Assumes nothing.
use mathlib.Core.Path.{◌≡◌, sym}
use mathlib.Core.Bool.{true, false}
use Prim.Native.Nat.{◌≤◌, ◌<◌}
use native.Mathlib.Omega.{arith}
use borrow.Author.Tests.{lt-ltb, le-ltb, le-leb, lt-leb, eq-eqb, ne_eqb}
use lib.Dec.{ltb}
use Rattle.packet.specs.declared.Packet.{Packet}
use Rattle.packet.specs.Header.{bad}
use Rattle.packet.proofs.Packet.is_bad.Goals as goal

module _ (p : Packet) where
  other-version : 0 < p.version → bad p ≡ true
  unfolding bad
  other-version h = rw (ne_eqb p.version 0 (λ e. omega arith))

  module _ (first : p.version ≡ 0) where
    too_long : 8191 < p.length → bad p ≡ true
    unfolding bad
    too_long h = rw (eq-eqb _ _ first, lt-ltb _ _ h)

    module _ (short : p.length ≤ 8191) where
      of-a-file : p.application.0 ≤ 2015 → bad p ≡ ltb p.length 2
      unfolding bad
      of-a-file h = rw (eq-eqb _ _ first, le-ltb _ _ short, le-leb _ _ h)

      of_none : 2015 < p.application.0 → bad p ≡ false
      unfolding bad
      of_none h = rw (eq-eqb _ _ first, le-ltb _ _ short, lt-leb _ _ h)

pub returns-then-self-ne0 : goal.returns-then-self-ne0
returns-then-self-ne0 c = sym (other-version _ (omega arith))

pub returns-then-self-gt-LONGEST : goal.returns-then-self-gt-LONGEST
returns-then-self-gt-LONGEST c = sym (too_long _ (omega arith) (omega arith))

pub returns-then-application-le-LAST_FILE : goal.returns-then-application-le-LAST_FILE
returns-then-application-le-LAST_FILE c = sym (of-a-file _ (omega arith) (omega arith) (omega arith))

pub returns : goal.returns
returns c = sym (of_none _ (omega arith) (omega arith) (omega arith))
