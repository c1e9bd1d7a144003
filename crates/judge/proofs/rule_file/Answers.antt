-- `judge::rule_file` meets its contract: by the flags, then by the file of the pair. Assumes nothing.
use mathlib.Core.Path.{◌≡◌, sym, ◌∙◌}
use Prim.Native.Nat.{◌<◌}
use native.Mathlib.Omega.{arith}
use borrow.Author.Rules.{rules}
use lib.ListN.{length}
use Rattle.octets.proofs.Lists.{unmap}
use Rattle.room.proofs.Find.{file-low}
use Rattle.judge.proofs.Rulings.{file-new, file-over, file-stray, file-next}
use Rattle.judge.proofs.rule_file.Goals as goal
use Rattle.judge.proofs.rule_file.Goals.{In-Some, In-Some-file, Start}

long : (c : Start) → length c.args.slots ≡ 32
long c = search (rules, unmap)

old-low : (c : In-Some) → c.in-Some.k < 32
old-low c =
    omega (arith, long (goal.at.In-Some c).Start, file-low _ _ _ (sym c.file_of-file.ensures ∙ c.in-Some.is))

next_low : (c : In-Some-file) → c.in-Some-file.k < 32
next_low c =
    omega (arith, long (goal.at.In-Some-file c).Start, file-low _ _ _ (sym c.file_of-file.ensures ∙ c.in-Some-file.is))

pub returns-in_default : goal.returns-in_default
returns-in_default c =
    file-new _ _ _ _ _ c.file_of-file.ensures (sym c.starts_file.ensures ∙ c.if-starts_file.true) c.in_default.is c.rule_new.ensures

pub rule_over-requires : goal.rule_over-requires
rule_over-requires c =
    let low = old-low c in
    search rules

pub returns-then-starts_file : goal.returns-then-starts_file
returns-then-starts_file c =
    file-over _ _ _ _ _ c.file_of-file.ensures (sym c.starts_file.ensures ∙ c.if-starts_file.true) c.in-Some.is c.rule_over.ensures

pub returns-in_default-file : goal.returns-in_default-file
returns-in_default-file c =
    file-stray _ _ _ _ _ c.file_of-file.ensures (sym c.starts_file.ensures ∙ c.if-starts_file.false) c.in_default-file.is

pub rule_next-requires : goal.rule_next-requires
rule_next-requires c = next_low c

pub returns : goal.returns
returns c =
    file-next _ _ _ _ _ c.file_of-file.ensures (sym c.starts_file.ensures ∙ c.if-starts_file.false) c.in-Some-file.is c.rule_next.ensures
