use mathlib.Core.Path.{◌≡◌, ◌∙◌}
use native.Mathlib.Omega.{arith}
use borrow.Author.Rules.{rules}
use lib.ListN.{length}
use Rattle.hunter.proofs.Hunting.{first-settled, first-hunt, few-hunt}
use Rattle.hunter.proofs.search.Goals as goal
use Rattle.hunter.proofs.search.Goals.{Start}

size : (c : Start) → length c.args.h.octets ≡ 1024
size c = search rules

pub fill-requires : goal.fill-requires
fill-requires c =
    first-settled c.args.h c.requires.sound c.args.portion.now _ c.requires.room (omega arith)

pub returns-then-n-ge4 : goal.returns-then-n-ge4
returns-then-n-ge4 c =
    let a = c.args in
    c.fill.ensures ∙ first-hunt a.h c.requires.sound a.portion.now a.buffer.now c.requires.room (omega arith)

pub returns : goal.returns
returns c =
    let a = c.args in
    rw c.none_found.ensures (few-hunt a.h c.requires.sound a.portion.now a.buffer.now _ (omega arith) c.copy.ensures)
