-- What no command changes. Assumes nothing.
use mathlib.Core.Path.{◌≡◌}
use mathlib.Core.List.{List}
use Prim.Native.Nat.{ℕ, ◌≤◌}
use native.Mathlib.Nat.{min-le_right}
use lib.Dec.{eqb}
use Rattle.octets.proofs.Lists.{if-cases}
use Rattle.script.specs.declared.Command.{Command}
use Rattle.clerk.specs.declared.Memory.{Memory}
use Rattle.clerk.specs.Calls.{wrote, settled, carried_out}

abbrev Fits : Memory → Type 0
Fits o = o.lent ≤ 32768

module _ (x : Command) (payload : List ℕ) (m : Memory) where
  settled-within : Fits m → Fits (settled x payload m)
  unfolding settled
  settled-within h =
      if-cases Fits (eqb x.letter 0x4D) (λ _. min-le_right x.c 32768)
      (λ _. if-cases Fits (eqb x.letter 0x57) (λ _. h) (λ _. if-cases Fits (eqb x.letter 0x50) (λ _. h) (λ _. h)))

  -- what is lent lies in the buffer
  lent-within : m.lent ≤ 32768 → (carried_out x payload m).lent ≤ 32768
  unfolding carried_out wrote
  lent-within h =
      if-cases Fits (eqb x.letter 0x42) (λ _. h) (λ _. if-cases Fits (eqb x.letter 0x45) (λ _. h) (λ _. settled-within h))

-- so too what a command hands on
pub lent-after : (x : Command) (payload : List ℕ) (m : Memory) {lent : ℕ} → m.lent ≤ 32768 → lent ≡ (carried_out x payload m).lent → lent ≤ 32768
lent-after x payload m h e = rw e (lent-within x payload m h)
