-- `catalogue::find_places` meets its contract. Assumes nothing.
use mathlib.Core.Path.{refl}
use native.Mathlib.Omega.{arith}
use Rattle.catalogue.proofs.Walks.{lies-two, lies-three}
use Rattle.catalogue.proofs.Judging.{placed}
use Rattle.catalogue.proofs.find_places.Goals as goal

pub u16_at-files-requires : goal.u16_at-files-requires
u16_at-files-requires c = omega (arith, lies-two c.args.s.now c.requires _ _ refl refl _ _ refl refl)

pub u16_at-images-requires : goal.u16_at-images-requires
u16_at-images-requires c = omega (arith, lies-two c.args.s.now c.requires _ _ c.u16_at-files.ensures refl _ _ refl refl)

pub u16_at-channels-requires : goal.u16_at-channels-requires
u16_at-channels-requires c = omega (arith, lies-three c.args.s.now c.requires _ _ c.u16_at-files.ensures refl _ _ _ c.u16_at-images.ensures refl refl)

pub returns : goal.returns
returns c =
    let s = c.args.s.now in
    let ex = c.u16_at-files.ensures in
    let ey = c.u16_at-images.ensures in
    let ez = c.u16_at-channels.ensures in (
      placed s _ _ _ ex ey ez,
      record { files = ex; second = refl; images = ey; third = refl; channels = ez; ends = lies-three s c.requires _ _ ex refl _ _ _ ey refl ez },
    )
