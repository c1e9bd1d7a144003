-- `vectors::take_in` meets its contract. Assumes nothing.
use mathlib.Core.Path.{refl}
use native.Mathlib.Omega.{arith}
use borrow.Author.Rules.{rules}
use Rattle.vectors.specs.Kept.{kept}
use Rattle.vectors.proofs.Coming.{came-more, came-all}
use Rattle.vectors.proofs.take_in.Goals as goal

pub loop-x-init : goal.loop-x-init
loop-x-init c = (search rules, search rules, refl)

pub loop-x-preserved : goal.loop-x-preserved
loop-x-preserved c =
    let l = c.loop-x in
    let octets = c.args.came.now in (
      search rules,
      search rules,
      came-more octets l.x-index (kept l.n l.line l.out) l.invariant.2 _ (omega arith) c.take_octet-n.ensures,
    )

pub returns : goal.returns
returns c =
    let l = c.loop-x in
    came-all c.args.came.now l.x-index (kept l.n l.line l.out) l.invariant.2 (omega arith)
