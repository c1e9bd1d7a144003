-- The sequel of a held packet, case by case, so that no proof has to open the definition. Assumes nothing.
use Rattle.std.specs.Prelude.{if◌then◌else◌}
use mathlib.Core.Path.{◌≡◌, refl, sym, ap}
use mathlib.Core.Bool.{Bool, true, false}
use Prim.Native.Nat.{ℕ, ◌-◌}
use Rattle.frame.specs.declared.Pointer.{Pointer}
use Rattle.packet.specs.declared.Packet.{Packet}
use Rattle.packet.specs.declared.Look.{Look}
use Rattle.packet.specs.declared.Look.TheVariants.{Short, Bad, Good}
use Rattle.packet.specs.Header.{size_of}
use Rattle.zone.specs.declared.Sequel.TheVariants.{Dropped, CarriedOn}
use Rattle.zone.specs.Zone.{agrees}
use Rattle.zone.specs.Contract.{sequel_of}

module _ (p : Pointer) (held : ℕ) where
  pub sequel-good : (h : Packet) → sequel_of (Good h) held p ≡ (if agrees (size_of h - held) p then CarriedOn (size_of h) else Dropped 2)
  unfolding sequel_of
  sequel-good h = refl

  pub sequel-bad : sequel_of Bad held p ≡ Dropped 3
  unfolding sequel_of
  sequel-bad = refl

  pub sequel-short : {l : Look} → l ≡ Short → Dropped 3 ≡ sequel_of l held p
  unfolding sequel_of
  sequel-short e = sym (ap (λ (k : Look). sequel_of k held p) e)

  pub sequel-spoilt : {l : Look} → l ≡ Bad → Dropped 3 ≡ sequel_of l held p
  unfolding sequel_of
  sequel-spoilt e = sym (ap (λ (k : Look). sequel_of k held p) e)

  module _ {l : Look} {h : Packet} (e : l ≡ Good h) {size : ℕ} (n : size ≡ size_of h) {b : Bool} (f : b ≡ agrees (size - held) p) where
    pub sequel-agrees : b ≡ true → CarriedOn size ≡ sequel_of l held p
    unfolding sequel_of
    sequel-agrees g = rw (e, ← n, ← f, g)

    pub sequel-differs : b ≡ false → Dropped 2 ≡ sequel_of l held p
    unfolding sequel_of
    sequel-differs g = rw (e, ← n, ← f, g)
