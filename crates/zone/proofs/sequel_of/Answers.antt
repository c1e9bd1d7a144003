-- `zone::sequel_of` is the definition `sequel_of` of what stands at the packet's start. Assumes nothing.
use mathlib.Core.Path.{◌≡◌, refl, sym, ◌∙◌}
use Prim.Native.Nat.{ℕ}
use Rattle.frame.specs.declared.Pointer.{Pointer}
use Rattle.packet.specs.declared.Packet.{Packet}
use Rattle.packet.specs.declared.Look.{Look}
use Rattle.packet.specs.declared.Look.TheVariants.{Short, Bad, Good}
use Rattle.zone.specs.declared.Sequel.TheVariants.{Dropped}
use Rattle.zone.specs.Contract.{sequel_of}
use Rattle.zone.proofs.Sequels.{sequel-short, sequel-spoilt, sequel-agrees, sequel-differs}
use Rattle.zone.proofs.sequel_of.Goals as goal

-- what is no good header drops the packet
no_header : (l : Look) (held : ℕ) (p : Pointer) {k : Look} → k ≡ l → ((h : Packet) → k ≡ Good h → ⊥) → Dropped 3 ≡ sequel_of l held p
no_header Short held p e f = sequel-short p held refl
no_header Bad held p e f = sequel-spoilt p held refl
no_header (Good h) held p e f = absurd (f h e)

pub returns-in_default : goal.returns-in_default
returns-in_default c = no_header _ _ _ c.look_at.ensures c.in_default.not-Good

pub returns-then-agrees : goal.returns-then-agrees
returns-then-agrees c =
    sequel-agrees _ _ (sym c.look_at.ensures ∙ c.in-Good.is)
    c.size-size.ensures c.agrees.ensures c.if-agrees.true

pub returns : goal.returns
returns c =
    sequel-differs _ _ (sym c.look_at.ensures ∙ c.in-Good.is)
    c.size-size.ensures c.agrees.ensures c.if-agrees.false
