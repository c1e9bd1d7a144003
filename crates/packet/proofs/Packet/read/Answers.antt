-- `packet::Packet::read` meets its contract: each field is a part of a number of two octets, and keeps to its bits. Assumes nothing.
use mathlib.Core.Path.{sym, subst}
use native.Mathlib.Omega.{arith}
use borrow.Author.Rules.{rules}
use Rattle.packet.specs.Header.{Bounded}
use Rattle.packet.proofs.Fields.{read_is, bounded}
use Rattle.packet.proofs.Packet.read.Goals as goal

pub returns : goal.returns
returns c =
    let octets = c.type_inv.s in
    let is =
    read_is _ (λ i. (octets i).fits) (search rules)
    c.u16_at-first.ensures c.u16_at-second.ensures c.u16_at.ensures (omega arith) in
    record {
      value = is;
      bounded = subst Bounded (sym is) (bounded _);
    }
