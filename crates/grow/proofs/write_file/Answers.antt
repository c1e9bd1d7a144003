-- `grow::write_file` meets its contract: the entry fills the array. Assumes nothing.
use mathlib.Core.Path.{refl}
use native.Mathlib.Omega.{arith}
use Rattle.catalogue.specs.Catalogue.{file_widths, file_row}
use Rattle.grow.proofs.Writing.{row_made}
use Rattle.grow.proofs.write_file.Goals as goal

pub returns : goal.returns
returns c =
    let a = c.args in
    row_made file_widths (file_row a.e) _ refl (omega arith) c.write_row.ensures
