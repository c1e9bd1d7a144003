-- `good_channels` meets its contract. The loop's invariant: the channels are distinct and 0 to 62 exactly if those from place i on are.
-- Assumes nothing.
use mathlib.Core.Path.{◌≡◌, refl, sym, ap, ◌∙◌}
use mathlib.Core.Bool.{true, false}
use mathlib.Core.List.{List, ◌∷◌}
use Prim.Native.Nat.{ℕ, ◌≤◌, ◌<◌}
use native.Mathlib.Omega.{arith}
use borrow.Author.Tests.{le-leb, lt-leb}
use lib.ListN.{length}
use Rattle.octets.proofs.Tests.{tests}
use Rattle.state.specs.Decision.{among, distinct_channels, good_channels}
use Rattle.state.proofs.Walk.{behind, settled, passed, ended}
use Rattle.channels.proofs.good_channels.Goals as goal

-- what the first channel says
module _ (c : ℕ) (cs : List ℕ) where
  high : 62 < c → distinct_channels (c ∷ cs) ≡ false
  unfolding distinct_channels
  high h = rw (lt-leb _ _ h)

  module _ (low : c ≤ 62) where
    again : among c cs ≡ true → distinct_channels (c ∷ cs) ≡ false
    unfolding distinct_channels
    again e = rw (le-leb _ _ low, e)

    once : among c cs ≡ false → distinct_channels (c ∷ cs) ≡ distinct_channels cs
    unfolding distinct_channels
    once e = rw (le-leb _ _ low, e)

-- a number of channels that is right leaves what each of them says
good : (cs : List ℕ) → 1 ≤ length cs → length cs ≤ 8 → distinct_channels cs ≡ good_channels cs
unfolding good_channels
good cs some few = rw (le-leb _ _ some, le-leb _ _ few)

pub returns-then-channels-lt1 : goal.returns-then-channels-lt1
unfolding good_channels
returns-then-channels-lt1 c = search tests

pub returns-then-channels-gt-MOST : goal.returns-then-channels-gt-MOST
unfolding good_channels
returns-then-channels-gt-MOST c = search tests

pub returns-then-c-gt-LAST : goal.returns-then-c-gt-LAST
returns-then-c-gt-LAST c = settled c.loop-i.invariant 0 (omega arith) (high _ _ (omega arith)) ∙ good _ (omega arith) (omega arith)

pub returns-then-among : goal.returns-then-among
returns-then-among c =
    let l = c.loop-i.invariant in
    let here = ap (among _) (behind l refl) ∙ sym c.among.ensures ∙ c.if-among.true in
    settled l 0 (omega arith) (again _ _ (omega arith) here) ∙ good _ (omega arith) (omega arith)

pub loop-i-preserved : goal.loop-i-preserved
loop-i-preserved c =
    let l = c.loop-i.invariant in
    let nowhere = ap (among _) (behind l refl) ∙ sym c.among.ensures ∙ c.if-among.false in
    passed l 0 (omega arith) (once _ _ (omega arith) nowhere)

pub returns : goal.returns
unfolding distinct_channels
returns c = ended c.loop-i.invariant (omega arith) refl ∙ good _ (omega arith) (omega arith)
