-- What no command changes. Assumes nothing.
use mathlib.Core.List.{List}
use Prim.Native.Nat.{ℕ, ◌≤◌}
use native.Mathlib.Nat.{min-le_right}
use lib.Dec.{eqb}
use lib.ListN.{length}
use Rattle.octets.proofs.Lists.{if-cases}
use Rattle.script.specs.declared.Command.{Command}
use Rattle.script.specs.Memory.{Memory, lent, octet_poked, state_poked, poked_by}
use Rattle.drive.specs.Calls.{was_set_up, took_frame, was_let_go, carried_out}

-- no more is lent than there is
module _ (x : Command) (payload : List ℕ) (w : Memory) where
  abbrev Within : Memory → Type 0
  Within o = (o.desks_lent ≤ length w.desks) × (o.store_lent ≤ length w.store)

  pub lent-within : Within w → Within (carried_out x payload w)
  unfolding carried_out poked_by lent was_set_up took_frame was_let_go octet_poked state_poked
  lent-within f =
      if-cases Within (eqb x.letter 0x53) (λ _. f)
      (λ _. if-cases Within (eqb x.letter 0x46) (λ _. f)
      (λ _. if-cases Within (eqb x.letter 0x4C) (λ _. f)
      (λ _. if-cases Within (eqb x.letter 0x4D) (λ _. (min-le_right _ _, min-le_right _ _))
      (λ _. if-cases Within (eqb x.letter 0x50) (λ _. f)
      (λ _. if-cases Within (eqb x.letter 0x51) (λ _. f) (λ _. f))))))
