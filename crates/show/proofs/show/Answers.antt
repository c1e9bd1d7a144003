-- `show::show` meets its contract. Assumes nothing.
use mathlib.Core.Path.{◌≡◌}
use Prim.Native.Nat.{◌-◌, ◌≤◌}
use native.Mathlib.Nat.{min-le_right}
use native.Mathlib.Omega.{arith}
use borrow.Author.Rules.{rules}
use lib.ListN.{length}
use lib.Seq.{length-take-le}
use Rattle.octets.proofs.Lists.{unmap}
use Rattle.show.proofs.Showing.{shown-whole}
use Rattle.show.proofs.show.Goals as goal
use Rattle.show.proofs.show.Goals.{Start}

owners : (c : Start) → length c.args.s.owner ≡ 4096
owners c = search rules

watched : (c : Start) → length c.args.s.watched ≡ 8
watched c = search (rules, unmap)

pub slice_bounds-slot_lines-end : goal.slice_bounds-slot_lines-end
slice_bounds-slot_lines-end c =
    let few : c.least-blocks.result ≤ 4096 = rw c.least-blocks.ensures (min-le_right _ _) in
    omega (arith, owners (goal.at.slice_bounds-slot_lines-end c).Start, few)

pub returns : goal.returns
returns c =
    let a = c.args in
    let first = c.head_line-head.ensures in
    let second = c.slot_lines-last.ensures in
    let third = c.channel_lines.ensures in
    let blocks = c.least-blocks in
    let few : blocks.result ≤ 4096 = rw blocks.ensures (min-le_right _ _) in
    let fits : blocks.result - 0 ≤ length a.s.owner = omega (arith, owners (goal.at.returns c).Start, few) in
    let cut = length-take-le (blocks.result - 0) a.s.owner fits in
    (omega (arith, first.0, second.0, third.0, few, cut), shown-whole a.s a.desks.now a.store.now (owners (goal.at.returns c).Start) (watched (goal.at.returns c).Start) blocks.ensures c.least-channels.ensures first.1 second.1 third.1)
