-- The header of a whole packet, as the code has it. Assumes nothing.
use mathlib.Core.Path.{◌≡◌, ap}
use mathlib.Core.List.{List}
use Prim.Native.Nat.{ℕ, ◌≤◌, ◌<◌}
use native.Mathlib.Omega.{arith}
use lib.ListN.{length}
use Rattle.packet.specs.declared.Packet.{Packet}
use Rattle.packet.specs.Header.{packet_of}
use Rattle.packet.proofs.Looks.{look-good}
use Rattle.judge.specs.Contract.{Whole}
use Rattle.judge.proofs.Parts.{whole-checked}

module _ {p : List ℕ} {h : Packet} (w : Whole p) (read : h ≡ packet_of p) where
  same-application : h.application.0 ≡ (packet_of p).application.0
  same-application = ap (λ (x : Packet). x.application.0) read

  pub read-application : h.application.0 < 2048
  read-application = omega (arith, same-application, (look-good p (packet_of p) w.good).application)

  pub read-checked : h.application.0 ≤ 2015 → 9 ≤ length p
  read-checked l = whole-checked w (omega (arith, same-application))
