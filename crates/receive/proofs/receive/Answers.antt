-- `receive::receive` meets its contract, by that of `take_frame`; there is room for the lines of its events. Assumes nothing.
use mathlib.Core.Path.{◌∙◌}
use borrow.Author.Rules.{rules}
use Rattle.octets.proofs.Lists.{unmap}
use Rattle.state.specs.Sound.{Sized}
use Rattle.station.proofs.Frames.{few-told}
use Rattle.station.proofs.Handed.{went_on}
use Rattle.receive.proofs.Steps.{told}
use Rattle.receive.proofs.receive.Goals as goal
use Rattle.receive.proofs.receive.Goals.{Start}

sized : (c : Start) → Sized c.args.s
sized c =
    record { watched = search (rules, unmap); desks = search (rules, unmap); owner = search rules; slots = search (rules, unmap) }

pub tell-requires : goal.tell-requires
tell-requires c =
    (few-told c.args.s (sized (goal.at.tell-requires c).Start) _ _ _ _ c.take_frame-f.ensures, search (rules, c.take_frame-f.auto), search rules)

pub returns : goal.returns
returns c =
    let taken = c.take_frame-f.ensures in
    record {
      went_on = went_on taken;
      out_after = c.tell.ensures ∙ rw (told _ taken);
    }
