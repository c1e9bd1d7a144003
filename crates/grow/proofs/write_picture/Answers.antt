-- `grow::write_picture` meets its contract: the entry fills the array. Assumes nothing.
use mathlib.Core.Path.{refl}
use native.Mathlib.Omega.{arith}
use Rattle.catalogue.specs.Catalogue.{image_widths}
use Rattle.grow.proofs.Writing.{row_made}
use mathlib.Core.List.{[], ◌∷◌}
use Rattle.grow.proofs.write_picture.Goals as goal

pub returns : goal.returns
returns c =
    let a = c.args in
    row_made image_widths (a.index ∷ a.p.columns ∷ a.p.lines ∷ a.p.number ∷ a.p.total ∷ []) _ refl (omega arith) c.write_row.ensures
