-- A record that 23 does not refuse, and where the next one begins. Assumes nothing.
use mathlib.Core.Path.{◌≡◌, refl}
use mathlib.Core.Bool.{Bool, true, false, ◌||◌, true≢false}
use Prim.Native.Nat.{ℕ, ◌+◌, ◌≤◌}
use borrow.Author.Tests.{ltb-false}
use lib.Dec.{ltb}
use Rattle.records.specs.Records.{is_cut, after}
use Rattle.records.specs.declared.Record.{Record}

-- two reasons of which neither applies
pub or-neither : (a b : Bool) → (a || b) ≡ false → (a ≡ false) × (b ≡ false)
or-neither true b e = absurd (true≢false e)
or-neither false b e = (refl, e)

module _ (end : ℕ) (r : Record) where
  pub uncut-within : is_cut end r ≡ false → (3 ≤ r.length) × (r.place + r.length ≤ end)
  unfolding is_cut
  uncut-within e =
      let (front, left) = or-neither (ltb r.length 3 || ltb end (r.place + r.length)) (ltb end (r.place + 3)) e in
      let (short, past) = or-neither (ltb r.length 3) (ltb end (r.place + r.length)) front in
      (ltb-false r.length 3 short, ltb-false end (r.place + r.length) past)

  pub after-cut : is_cut end r ≡ true → after end r ≡ end
  unfolding after
  after-cut e = rw e

  pub after-uncut : is_cut end r ≡ false → after end r ≡ r.place + r.length
  unfolding after
  after-uncut e = rw e
