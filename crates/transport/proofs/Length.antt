-- The laws of the length, the need and the rest. `length-plainly` alone looks at what `good_length` says, and `filled-up` alone at what
-- `octets_of_bits` says: the others hold of every L, whatever octets a file of L bits has, because the ten octets in front of it are always
-- there. Assumes nothing.
use mathlib.Core.Path.{◌≡◌, refl}
use Prim.Native.Nat.{ℕ, ◌+◌, ◌-◌, ◌*◌, ◌^◌, ◌≤◌, ◌<◌}
use native.Mathlib.Omega.{arith}
use Rattle.octets.specs.Choice.{Decides}
use Rattle.octets.proofs.Decide.{decides_eqb, decides_not}
use Rattle.octets.proofs.Numbers.{rounded-up}
use Rattle.transport.specs.Length.{good_length, octets_of_bits, transport_size, need, rest}

module _ (L : ℕ) where
  -- not 0
  pub length-plainly : Decides (L ≡ 0 → ⊥) (good_length L)
  unfolding good_length
  length-plainly = decides_not (decides_eqb L 0)

  pub size-sum : transport_size L ≡ 10 + octets_of_bits L
  unfolding transport_size
  size-sum = refl

  pub need-one : 1 ≤ need L
  unfolding need transport_size
  need-one = omega arith

  -- the quotient by 8190, rounded up: enough, and no block more than enough
  pub need-covers : transport_size L ≤ 8190 * need L
  unfolding need
  need-covers = omega arith

  pub need-least : 8190 * need L < transport_size L + 8190
  unfolding need
  need-least = omega arith

  pub rest_sum : 8190 * (need L - 1) + rest L ≡ transport_size L
  unfolding rest
  rest_sum = omega (arith, need-one, need-least)

  pub rest-bounds : (1 ≤ rest L) × (rest L ≤ 8190)
  rest-bounds = omega (arith, rest_sum, need-one, need-covers, need-least)

  -- the bits, and 0 to 7 behind them that fill up the last octet
  pub filled-up : (L ≤ 8 * octets_of_bits L) × (8 * octets_of_bits L ≤ L + 7)
  unfolding octets_of_bits
  filled-up = (omega (arith, rounded-up L), omega (arith, rounded-up L))

  -- a length of 64 bits needs fewer than 2^49 blocks, so that 32 needs add up in 64 bits
  pub need-small : L < 2 ^ 64 → need L < 2 ^ 49
  need-small h = omega (arith, size-sum, need-least, filled-up)
