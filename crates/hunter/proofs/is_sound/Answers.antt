use mathlib.Core.Path.{◌≡◌, sym, ap, ◌∙◌}
use mathlib.Core.Bool.{true}
use Prim.Native.Nat.{◌≤◌}
use native.Mathlib.Omega.{arith}
use borrow.Author.Rules.{rules}
use lib.ListN.{length}
use Rattle.std.proofs.lemmas.Grind.{common_steps}
use Rattle.std.proofs.lemmas.Bool.Decides.{nat_tests}
use Rattle.stream.specs.Hunter.{is_sound}
use Rattle.stream.specs.Seek.{near}
use Rattle.hunter.proofs.Judging.{near-number, few-waiting, marker-waits}
use Rattle.hunter.proofs.is_sound.Goals as goal
use Rattle.hunter.proofs.is_sound.Goals.{then-n-lt-SIZE+then-n-lt4, then-n-lt-SIZE+else-n-lt4, else-n-lt-SIZE}

pub returns-then-is_near : goal.returns-then-is_near
returns-then-is_near c =
    let h = c.args.h in
    let size : length h.octets ≡ 1024 = search rules in
    let begun : h.begun ≡ true = grind (arith, nat_tests) in
    let k : h.k ≤ 3 = grind (arith, nat_tests) in
    elim c.if-n-lt-SIZE.branch [
      | then-n-lt-SIZE+then-n-lt4 w ↦ c.all_zero.ensures ∙ few-waiting h begun k (omega arith) size (omega arith)
      | then-n-lt-SIZE+else-n-lt4 w ↦
          c.all_zero.ensures
          ∙ marker-waits h begun k (omega arith) size (omega arith)
          (ap (near h.k) (sym w.u32_at.ensures) ∙ sym w.is_near.ensures ∙ sym w.value-is ∙ c.if-is_near.true)
      | else-n-lt-SIZE w ↦ cc
    ]

pub returns-else-is_near : goal.returns-else-is_near
unfolding is_sound
returns-else-is_near c =
    let h = c.args.h in
    grind (arith, common_steps, nat_tests, near-number h.k h.octets)
