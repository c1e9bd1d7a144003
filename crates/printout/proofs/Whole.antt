-- The whole text, from its parts. Assumes nothing.
use Rattle.std.specs.Prelude.{Option, Some, None}
use mathlib.Core.Path.{◌≡◌, sym, ap, ◌∙◌}
use mathlib.Core.Bool.{true}
use mathlib.Core.List.{List, map}
use Prim.Native.Nat.{ℕ, ◌≤◌}
use native.Mathlib.Omega.{arith}
use lib.ListN.{length, take}
use Rattle.octets.proofs.Tests.{and_right}
use Rattle.text.specs.Pieces.{Written}
use Rattle.text.proofs.Following.{at_front, behind}
use Rattle.sections.specs.Sections.{whole}
use Rattle.catalogue.specs.declared.Places.{Places}
use Rattle.catalogue.specs.Catalogue.{channel_of, how_many, widths, files_of, images_of, channels_of, good_tables, accepts, listed}
use Rattle.catalogue.specs.Reading.{found_in, Lies}
use Rattle.catalogue.proofs.Exact.{table-few, table-counts, few-channels}
use Rattle.catalogue.proofs.Judging.{found-lies, found_none}
use Rattle.catalogue.proofs.Asking.{file-count, image-count, channel-count}
use Rattle.printout.specs.Printed.{file_lines, channel_lines, end_line, refused_line, printed}

-- the numbers of files and channels that a catalogue has at most
tables-good : (xs : List ℕ) → accepts xs ≡ true → good_tables (files_of xs) (images_of xs) (channels_of xs) ≡ true
unfolding accepts
tables-good xs a = and_right (whole widths xs) (good_tables (files_of xs) (images_of xs) (channels_of xs)) a

pub record Few (at : Places) : Type 0 where
  pub files : at.files ≤ 1024
  pub channels : at.channels ≤ 63

module _ (xs : List ℕ) {f : Option Places} (e : f ≡ found_in xs) {at : Places} (q : f ≡ Some at) where
  pub lies : Lies xs at
  lies = (found-lies (sym e ∙ q)).1

  pub few : Few at
  few =
      let good = tables-good xs (found-lies (sym e ∙ q)).0 in
      let F = files_of xs in
      let counts = table-counts F (images_of xs) (channels_of xs) good in
      record {
        files = omega (arith, file-count lies, table-few F (images_of xs) (channels_of xs) good);
        channels = omega (arith, channel-count lies, ap length counts, few-channels (λ (c : ℕ). how_many c (map channel_of F)) 63 0);
      }

  pub printed-all : {before files channels after : List ℕ} {a b end : ℕ} → Written before 0 (file_lines 0 (listed xs)) files a
      → Written files a (channel_lines (channels_of xs)) channels b → Written channels b (end_line at.files at.images at.channels) after end
      → end ≤ length before → take end after ≡ printed xs
  unfolding printed
  printed-all u v w h =
      at_front (behind (behind u v) w) h
      ∙ sym (rw ((found-lies (sym e ∙ q)).0, file-count lies, image-count lies, channel-count lies))

pub printed-none : (xs : List ℕ) {f : Option Places} → f ≡ found_in xs → f ≡ None → {before after : List ℕ} {end : ℕ} → Written before 0 refused_line after end
    → end ≤ length before → take end after ≡ printed xs
unfolding printed
printed-none xs e q w h = at_front w h ∙ sym (rw (found_none xs (sym e ∙ q)))
