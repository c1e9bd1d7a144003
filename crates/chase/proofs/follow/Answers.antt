-- `chase::follow` meets its contract: it starts from what the page says. Assumes nothing.
use mathlib.Core.Path.{◌≡◌, refl, ◌∙◌}
use mathlib.Core.Bool.{Bool, false}
use mathlib.Core.List.{List}
use Prim.Native.Nat.{ℕ}
use native.Mathlib.Omega.{arith}
use borrow.Author.Rules.{rules}
use lib.ListN.{replicate}
use Rattle.chase.specs.Run.{at_start, chased}
use Rattle.chase.proofs.follow.Goals as goal

begins : (script : List ℕ) {begun : Bool} {k waiting : ℕ} {octets buffer : List ℕ} → begun ≡ false → k ≡ 0 → waiting ≡ 0
    → octets ≡ replicate 1024 0 → buffer ≡ replicate 2048 0
    → chased (record { hunter = record { begun = begun; k = k; waiting = waiting; octets = octets }; buffer = buffer }) script
    ≡ chased at_start script
begins script g k w o b = rw (g, k, w, o, b)

pub returns : goal.returns
returns c = c.follow-r.ensures.memory_after ∙ begins _ (search rules) (omega arith) (omega arith) refl refl
