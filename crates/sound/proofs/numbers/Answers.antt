-- `numbers` meets its contract: place by place, each is the number of its channel. Assumes nothing.
use mathlib.Core.Path.{◌≡◌}
use native.Mathlib.Omega.{arith}
use borrow.Author.Rules.{rules}
use lib.ListN.{length, length-map}
use Rattle.octets.proofs.Lists.{unmap}
use Rattle.std.proofs.lemmas.List.{same_lists, get_or-map}
use Rattle.frame.specs.declared.Channel.{Channel}
use Rattle.state.specs.Slots.{number}
use Rattle.sound.proofs.numbers.Goals as goal

pub returns : goal.returns
returns c =
    let xs = c.args.watched in
    let eight : length xs ≡ 8 = search (rules, unmap) in
    let items = c.map.ensures.items in
    let none : Channel = record { 0 = 0 } in
    same_lists _ _ (rw (length-map, eight) items.long)
    (λ k d h. let turn = items.at k none d (omega (arith, items.long)) in rw (get_or-map number xs k none d (omega (arith, items.long))) (search rules))
