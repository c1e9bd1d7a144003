-- Lines one behind the other: of the files, with the images that they take, and of the channels. Assumes nothing.
use mathlib.Core.Path.{◌≡◌, refl, sym, ap, ◌∙◌}
use mathlib.Core.List.{List, [], ◌++◌}
use Prim.Native.Nat.{ℕ, suc, ◌+◌, ◌*◌, ◌<◌, ◌≤◌}
use native.Mathlib.Numerals.{add-one}
use native.Mathlib.Omega.{arith}
use lib.ListN.{length, get_or, drop, length-drop, drop_of_length-le}
use lib.Seq.{drop-cons, drop-drop}
use Rattle.text.specs.Pieces.{Written}
use Rattle.text.proofs.Following.{Writing, begun, went_on, done}
use Rattle.sections.specs.Sections.{Row, values}
use Rattle.catalogue.specs.declared.ChannelEntry.{ChannelEntry}
use Rattle.catalogue.specs.declared.Entry.{Entry}
use Rattle.catalogue.specs.declared.Places.{Places}
use Rattle.catalogue.specs.Catalogue.{channel_widths, files_of, images_of, channels_of, list_of, listed}
use Rattle.catalogue.specs.Reading.{Lies}
use Rattle.catalogue.specs.Asking.{channel_entry}
use Rattle.catalogue.proofs.Asking.{file-count, image-count, channel-count, channel-stands}
use Rattle.printout.specs.Printed.{file_line, file_lines, channel_line, channel_lines}
use Rattle.printout.specs.Left.{image_for, taken, entry_at}
use Rattle.printout.proofs.Taking.{list-next, taken-few}

-- the files from i on, with the images that are left when j were taken
abbrev left_of : List ℕ → ℕ → ℕ → List Entry
left_of xs i j = list_of i (drop i (files_of xs)) (drop j (images_of xs))

-- the lines of the first i files were written, which took j images; those of the others, with the images that are left, give the whole
pub record Filing (xs : List ℕ) (at : Places) (before out : List ℕ) (end i j : ℕ) : Type 0 where
  pub images : j ≤ at.images
  pub slow : j ≤ i
  pub few : end ≤ 273 * i
  pub room : length out ≡ length before
  pub gives : Writing before 0 (file_lines 0 (listed xs)) out end (file_lines i (left_of xs i j))

pub filing-none : (xs : List ℕ) (at : Places) (before : List ℕ) → Filing xs at before before 0 0 0
unfolding listed
filing-none xs at before =
    record { images = omega arith; slow = omega arith; few = omega arith; room = refl; gives = begun before (file_lines 0 (listed xs)) 0 }

left-next : (xs : List ℕ) (i j : ℕ) → i < length (files_of xs)
    → file_lines i (left_of xs i j) ≡ file_line i (entry_at xs i j) ++ file_lines (i + 1) (left_of xs (i + 1) (j + taken (entry_at xs i j).image))
unfolding file_lines
left-next xs i j h =
    let fs = files_of xs in
    let rs = drop j (images_of xs) in
    ap (λ (ys : List Row). file_lines i (list_of i ys rs)) (drop-cons fs i [] h)
    ∙ ap (file_lines i) (list-next i (get_or fs i []) (drop (suc i) fs) rs)
    ∙ rw (add-one i, drop-drop (taken (image_for i rs)) j (images_of xs))

module _ {xs : List ℕ} {at : Places} (L : Lies xs at) {before out : List ℕ} {end i j : ℕ} (g : Filing xs at before out end i j) where
  pub filing-more : {e : Entry} {after : List ℕ} {next k : ℕ} → i < at.files → e ≡ entry_at xs i j → next ≤ end + 273 → length after ≡ length out
      → Written out end (file_line i e) after next → k ≤ 1 → k ≡ taken e.image → Filing xs at before after next (i + 1) (j + k)
  filing-more {e} {k = k} h q few room w one t =
      let f = file-count L in
      let m = image-count L in
      let n : k ≡ taken (entry_at xs i j).image = t ∙ ap (λ (x : Entry). taken x.image) q in
      record {
        images = omega (arith, n, taken-few i (drop j (images_of xs)), length-drop j (images_of xs), g.images);
        slow = omega (arith, g.slow);
        few = omega (arith, g.few);
        room = room ∙ g.room;
        gives = rw n (went_on (rw (left-next xs i j (omega arith)) at g.gives) (rw q at w));
      }

  pub filing-all : at.files ≤ i → Written before 0 (file_lines 0 (listed xs)) out end
  unfolding file_lines list_of
  filing-all h =
      let all : length (files_of xs) ≤ i = omega (arith, file-count L) in
      done (rw (drop_of_length-le (files_of xs) all) at g.gives)

-- the same of the channels
pub record Listing (xs : List ℕ) (at : Places) (before : List ℕ) (start : ℕ) (out : List ℕ) (end i : ℕ) : Type 0 where
  pub few : end ≤ start + 56 * i
  pub room : length out ≡ length before
  pub gives : Writing before start (channel_lines (channels_of xs)) out end (channel_lines (drop i (channels_of xs)))

pub listing_none : (xs : List ℕ) (at : Places) (before : List ℕ) (start : ℕ) → Listing xs at before start before start 0
listing_none xs at before start =
    record { few = omega arith; room = refl; gives = begun before (channel_lines (channels_of xs)) start }

channels-next : (rs : List Row) (i : ℕ) → i < length rs
    → channel_lines (drop i rs) ≡ channel_line (get_or (get_or rs i []) 0 0) (get_or (get_or rs i []) 1 0) ++ channel_lines (drop (i + 1) rs)
unfolding channel_lines
channels-next rs i h = ap channel_lines (drop-cons rs i [] h) ∙ rw (add-one i)

module _ {xs : List ℕ} {at : Places} (L : Lies xs at) {before out : List ℕ} {start end i : ℕ} (g : Listing xs at before start out end i) where
  pub listing-more : {e : ChannelEntry} {after : List ℕ} {next : ℕ} → i < at.channels
      → e ≡ channel_entry (values channel_widths xs (at.third + 2 + i * 3)) → next ≤ end + 56 → length after ≡ length out
      → Written out end (channel_line e.channel.0 e.files) after next → Listing xs at before start after next (i + 1)
  listing-more {e} h q few room w =
      let stands : e ≡ channel_entry (get_or (channels_of xs) i []) = q ∙ ap (λ (r : Row). channel_entry r) (sym (channel-stands L i h)) in
      record {
        few = omega (arith, g.few);
        room = room ∙ g.room;
        gives = went_on (rw (channels-next (channels_of xs) i (omega (arith, channel-count L))) at g.gives) (rw stands at w);
      }

  pub listing-all : at.channels ≤ i → Written before start (channel_lines (channels_of xs)) out end
  unfolding channel_lines
  listing-all h =
      let all : length (channels_of xs) ≤ i = omega (arith, channel-count L) in
      done (rw (drop_of_length-le (channels_of xs) all) at g.gives)
