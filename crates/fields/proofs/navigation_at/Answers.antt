-- `fields::navigation_at` meets its contract. Assumes nothing.
use mathlib.Core.Path.{◌∙◌}
use mir.Facts.{to_z-of_z}
use mir.Syntax.{w32}
use Rattle.records.specs.Reader.{navigation_at}
use borrow.Author.Rules.{rules}
use Rattle.fields.proofs.navigation_at.Goals as goal

pub returns : goal.returns
unfolding navigation_at
returns c =
    λ i.
    record {
      name = c.name_at.ensures i;
      cfac = (to_z-of_z {w = w32} {z = c.i32_at.result} (search rules) ∙ c.i32_at.ensures) i;
      lfac = (to_z-of_z {w = w32} {z = c.i32_at-2.result} (search rules) ∙ c.i32_at-2.ensures) i;
      coff = (to_z-of_z {w = w32} {z = c.i32_at-3.result} (search rules) ∙ c.i32_at-3.ensures) i;
      loff = (to_z-of_z {w = w32} {z = c.i32_at-4.result} (search rules) ∙ c.i32_at-4.ensures) i;
    }
