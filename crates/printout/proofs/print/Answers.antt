-- `printout::print` meets its contract: the octets read, from where a catalogue was found in them. Assumes nothing.
use native.Mathlib.Omega.{arith}
use borrow.Author.Rules.{rules}
use Rattle.catalogue.specs.Reading.{Lies}
use Rattle.printout.proofs.Whole.{Few, lies, few, printed-all, printed-none}
use Rattle.printout.proofs.print.Goals as goal
use Rattle.printout.proofs.print.Goals.{In-Some}

in-places : (c : In-Some) → Lies c.args.s.now c.in-Some.at
in-places c = lies c.args.s.now c.find.ensures c.in-Some.is

not-many : (c : In-Some) → Few c.in-Some.at
not-many c = few c.args.s.now c.find.ensures c.in-Some.is

pub returns-in_default : goal.returns-in_default
returns-in_default c =
    let line = c.refused_line.ensures in
    (omega (arith, line.0), printed-none c.args.s.now c.find.ensures c.in_default.is line.1 (search (rules, line.0)))

pub file_lines-files-requires : goal.file_lines-files-requires
file_lines-files-requires c =
    let place = (goal.at.file_lines-files-requires c).In-Some in
    (in-places place, search (rules, (not-many place).files))

pub channel_lines-channels-requires : goal.channel_lines-channels-requires
channel_lines-channels-requires c =
    let place = (goal.at.channel_lines-channels-requires c).In-Some in
    let few = not-many place in
    (in-places place, search (rules, few.files, few.channels))

pub end_line-requires : goal.end_line-requires
end_line-requires c =
    let few = not-many (goal.at.end_line-requires c).In-Some in
    search (rules, few.files, few.channels)

pub returns : goal.returns
returns c =
    let few = not-many (goal.at.returns c).In-Some in
    let end = c.end_line.ensures in (
      search (rules, few.files, few.channels),
      printed-all c.args.s.now c.find.ensures c.in-Some.is c.file_lines-files.ensures.1 c.channel_lines-channels.ensures.1 end.1
          (search (rules, few.files, few.channels)),
    )
