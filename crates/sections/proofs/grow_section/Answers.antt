use Prim.Native.Nat.{◌+◌}
use Rattle.octets.specs.Number.{in_octets}
use Rattle.octets.proofs.Storing.{length-in_octets}
use Rattle.sections.proofs.Growing.{grown}
use Rattle.sections.proofs.grow_section.Goals as goal

pub returns : goal.returns
returns c =
    let a = c.args in
    grown a.dst.now a.at a.n a.w a.by a.row.now (in_octets 2 (a.n + a.more)) (length-in_octets 2 (a.n + a.more)) c.requires.3
    c.shift.ensures c.store.ensures c.copy.ensures
