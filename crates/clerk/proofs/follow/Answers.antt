-- `clerk::follow` meets its contract: it starts from what the page says. Assumes nothing.
use mathlib.Core.Path.{◌≡◌, refl, ◌∙◌}
use mathlib.Core.List.{List}
use Prim.Native.Nat.{ℕ}
use native.Mathlib.Omega.{arith}
use lib.ListN.{replicate}
use Rattle.clerk.specs.Run.{entered, from_nothing}
use Rattle.clerk.proofs.follow.Goals as goal

begins : (script : List ℕ) {buffer : List ℕ} {lent used : ℕ} → buffer ≡ replicate 32768 0 → lent ≡ 0 → used ≡ 0
    → entered (record { buffer = buffer; lent = lent; used = used }) script ≡ from_nothing script
begins script b l u = rw (b, l, u)

pub returns : goal.returns
returns c = c.follow-r.ensures.memory_after ∙ begins _ refl (omega arith) (omega arith)
