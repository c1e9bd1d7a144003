-- `count_owners` meets its contract, by the tally and what it tells. Assumes nothing.
use mathlib.Core.Path.{◌∙◌}
use native.Mathlib.Omega.{arith}
use borrow.Author.Rules.{rules}
use lib.ListN.{take}
use Rattle.octets.proofs.Numbers.{octets-take}
use Rattle.owners.proofs.Counts.{slots_counts, strays}
use Rattle.owners.proofs.count_owners.Goals as goal

pub returns : goal.returns
returns c =
    let a = c.args in
    let t = take a.n a.owner.now in
    let tally = c.tally_owners-tally in
    let small = octets-take a.owner.now a.n (λ i. (c.type_inv.owner i).fits) in record {
      good_value = c.no_strays-good.ensures ∙ strays t tally.result (search rules) tally.ensures small;
      counts_value = c.slots_part-counts.ensures ∙ slots_counts t tally.result (search rules) tally.ensures 0 32 (omega arith);
    }
