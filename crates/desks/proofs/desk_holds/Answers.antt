-- `desk_holds` meets its contract, by its tests and the contract of `Counter::checked`. Assumes nothing.
use mathlib.Core.Path.{◌≡◌, sym, ◌∙◌}
use mathlib.Core.Bool.{true, false}
use Prim.Native.Nat.{◌≤◌, ◌<◌}
use native.Mathlib.Omega.{arith}
use borrow.Author.Rules.{rules}
use borrow.Author.Tests.{le-leb, lt-ltb, le-ltb, eq-eqb, ne_eqb}
use lib.Dec.{eqb}
use Rattle.octets.proofs.Tests.{tests}
use Rattle.frame.proofs.Made.{made-counter, no-counter}
use Rattle.state.specs.declared.Desk.{Desk}
use Rattle.state.specs.Decision.{desk_holds}
use Rattle.desks.proofs.desk_holds.Goals as goal

-- what the tests behind the first say
module _ (d : Desk) (few : d.held ≤ 8197) where
  high : 0x1000000 ≤ d.counter.0 → desk_holds d ≡ false
  unfolding desk_holds
  high h = rw (le-leb _ _ few, le-ltb _ _ h)

  module _ (low : d.counter.0 < 0x1000000) where
    seen : d.seen ≡ true → desk_holds d ≡ true
    unfolding desk_holds
    seen e = rw (le-leb _ _ few, lt-ltb _ _ low, e)

    module _ (none : d.seen ≡ false) where
      counted : (d.counter.0 ≡ 0 → ⊥) → desk_holds d ≡ false
      unfolding desk_holds
      counted n = rw (le-leb _ _ few, lt-ltb _ _ low, none, ne_eqb _ _ n)

      uncounted : d.counter.0 ≡ 0 → desk_holds d ≡ eqb d.held 0
      unfolding desk_holds
      uncounted e = rw (le-leb _ _ few, lt-ltb _ _ low, none, eq-eqb _ _ e)

pub returns-then-desk-gt-MOST : goal.returns-then-desk-gt-MOST
unfolding desk_holds
returns-then-desk-gt-MOST c = search tests

pub returns-in_default : goal.returns-in_default
returns-in_default c = sym (high _ (omega arith) (no-counter _ c.checked.ensures c.in_default.is))

pub returns-then-desk : goal.returns-then-desk
returns-then-desk c =
    let made = made-counter _ c.checked.ensures c.in-Some.is in
    c.if-desk.true ∙ sym (seen _ (omega arith) made.0 c.if-desk.true)

pub returns-else-counter-eq0 : goal.returns-else-counter-eq0
returns-else-counter-eq0 c =
    let made = made-counter _ c.checked.ensures c.in-Some.is in
    ne_eqb _ _ c.if-counter-eq0.false ∙ sym (counted _ (omega arith) made.0 (search rules) (λ e. c.if-counter-eq0.false (made.1 ∙ e)))

pub returns-then-counter-eq0 : goal.returns-then-counter-eq0
returns-then-counter-eq0 c =
    let made = made-counter _ c.checked.ensures c.in-Some.is in
    sym (uncounted _ (omega arith) made.0 (search rules) (sym made.1 ∙ c.if-counter-eq0.true))
