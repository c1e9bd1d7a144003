-- "Accepted exactly if it is what the writer writes for some list", and the same octets stand for the same list. Assumes nothing.
use Rattle.std.specs.Prelude.{Option, Some, None}
use mathlib.Core.Path.{◌≡◌, refl, sym, ap, ap₂, ◌∙◌}
use mathlib.Core.Bool.{true, ◌&&◌, false≢true}
use mathlib.Core.List.{List, [], ◌∷◌, ◌++◌, map}
use mathlib.Core.Logic.{◌↔◌}
use Prim.Native.Nat.{ℕ, zero, suc, ◌+◌, ◌<◌, ◌≤◌}
use native.Mathlib.Omega.{arith}
use borrow.Author.Tests.{leb-true, le-leb, eqb-true, eq-eqb}
use lib.Dec.{leb, eqb}
use lib.ListN.{length, get_or, length-map, length-append}
use Rattle.octets.specs.Choice.{Decides}
use Rattle.octets.specs.Each.{each}
use Rattle.octets.proofs.Decide.{decides-by, exactly}
use Rattle.octets.proofs.Tests.{and_left, and_right, and_both}
use Rattle.octets.proofs.Lists.{if-cases}
use Rattle.octets.specs.Number.{Octets}
use Rattle.catalogue.specs.declared.Entry.{Entry}
use Rattle.sections.specs.Sections.{Row, AllFit, Sections, sections, sections_of, whole}
use Rattle.sections.specs.Sections.Fits.{no_field, field}
use Rattle.sections.specs.Sections.AllFit.{no-entry, entry}
use Rattle.sections.specs.Sections.Sections.{no-section, another}
use Rattle.catalogue.specs.Catalogue.{file_widths, file_row, image_widths, image_row, image_rows, channel_widths, how_many, channel_rows, channel_of, counted_channels, widths, tables, written, GoodImage, AllGood, Good, Catalogue, good_file, rising, same_row, same_rows, files_of, images_of, channels_of, good_tables, accepts, list_of}
use Rattle.sections.proofs.Parts.{sections-read, sections-whole, sections-written, sections-fit}
use Rattle.catalogue.specs.declared.Picture.{Picture}
use Rattle.catalogue.proofs.Lists.{rising-rows, list-rows, reads, Reads}

-- the comparison of rows
same_row_lem : (r s : Row) → same_row r s ≡ true → r ≡ s
unfolding same_row
same_row_lem [] [] e = refl
same_row_lem [] (y ∷ ys) e = absurd (false≢true e)
same_row_lem (x ∷ xs) [] e = absurd (false≢true e)
same_row_lem (x ∷ xs) (y ∷ ys) e =
    ap₂ (λ (z : ℕ) (zs : Row). z ∷ zs) (eqb-true x y (and_left (eqb x y) (same_row xs ys) e)) (same_row_lem xs ys (and_right (eqb x y) (same_row xs ys) e))

pub same-rows : (r s : List Row) → same_rows r s ≡ true → r ≡ s
unfolding same_rows
same-rows [] [] e = refl
same-rows [] (y ∷ ys) e = absurd (false≢true e)
same-rows (x ∷ xs) [] e = absurd (false≢true e)
same-rows (x ∷ xs) (y ∷ ys) e =
    ap₂ (λ (z : Row) (zs : List Row). z ∷ zs) (same_row_lem x y (and_left (same_row x y) (same_rows xs ys) e)) (same-rows xs ys (and_right (same_row x y) (same_rows xs ys) e))

row_same : (r : Row) → same_row r r ≡ true
unfolding same_row
row_same [] = refl
row_same (x ∷ xs) = and_both (eq-eqb x x refl) (row_same xs)

pub rows_same : (r : List Row) → same_rows r r ≡ true
unfolding same_rows
rows_same [] = refl
rows_same (x ∷ xs) = and_both (row_same x) (rows_same xs)

-- the sections of a good list have room
pub files-fit : {es : List Entry} → AllGood es → AllFit file_widths (map file_row es)
files-fit AllGood.none = no-entry
files-fit (AllGood.one {e} g gs) =
    let a : e.facts.channel.0 < 256 = omega (arith, g.low) in
    let b : e.facts.application.0 < 65536 = omega (arith, g.free) in
    entry (field a (field b (field g.counted (field g.long (field g.octet no_field))))) (files-fit gs)

image-fits : (i : ℕ) (p : Option Picture) (rs : List Row) → i < 65536 → GoodImage p → AllFit image_widths rs → AllFit image_widths (image_row i p ++ rs)
image-fits i None rs h g f = f
image-fits i (Some p) rs h (GoodImage.some a b d e) f =
    entry (field h (field a (field b (field d (field e no_field))))) f

pub images-fit : {es : List Entry} → AllGood es → (i : ℕ) → i + length es ≤ 65536 → AllFit image_widths (image_rows i es)
unfolding image_rows
images-fit AllGood.none i h = no-entry
images-fit (AllGood.one {e} {es} g gs) i h = image-fits i e.image (image_rows (suc i) es) (omega arith) g.shown (images-fit gs (suc i) (omega arith))

few-image : (i : ℕ) (p : Option Picture) → length (image_row i p) ≤ 1
few-image i None = omega arith
few-image i (Some p) = omega arith

pub few-images : (i : ℕ) (es : List Entry) → length (image_rows i es) ≤ length es
unfolding image_rows
few-images i [] = omega arith
few-images i (e ∷ es) =
    omega (arith, length-append (image_row i e.image) (image_rows (suc i) es), few-image i e.image, few-images (suc i) es)

pub how-few : (c : ℕ) (xs : List ℕ) → how_many c xs ≤ length xs
unfolding how_many
how-few c [] = omega arith
how-few c (x ∷ xs) = if-cases (λ (k : ℕ). k + how_many c xs ≤ suc (length xs)) (eqb c x) (λ q. omega (arith, how-few c xs)) (λ q. omega (arith, how-few c xs))

module _ (f : ℕ → ℕ) (few : (c : ℕ) → f c < 65536) where
  pub channels-fit : (k c : ℕ) → c + k ≤ 256 → AllFit channel_widths (channel_rows f k c)
  unfolding channel_rows
  channels-fit zero c h = no-entry
  channels-fit (suc k) c h =
      if-cases (AllFit channel_widths) (eqb (f c) 0) (λ q. channels-fit k (suc c) (omega arith))
      (λ q. entry (field (omega arith) (field (few c) no_field)) (channels-fit k (suc c) (omega arith)))

pub few-channels : (f : ℕ → ℕ) (k c : ℕ) → length (channel_rows f k c) ≤ k
unfolding channel_rows
few-channels f zero c = omega arith
few-channels f (suc k) c =
    if-cases (λ (rs : List Row). length rs ≤ suc k) (eqb (f c) 0) (λ q. omega (arith, few-channels f k (suc c))) (λ q. omega (arith, few-channels f k (suc c)))

-- what is written for a good list
module _ {es : List Entry} (g : Good es) where
  abbrev fs : List Row
  fs = map file_row es

  pub counted-few : (c : ℕ) → how_many c (map channel_of fs) < 65536
  counted-few c = omega (arith, how-few c (map channel_of fs), length-map fs channel_of, length-map es file_row, g.few)

  tables-fit : Sections widths (tables es)
  tables-fit =
      let f : length fs < 65536 = omega (arith, length-map es file_row, g.few) in
      let i : length (image_rows 0 es) < 65536 = omega (arith, few-images 0 es, g.few) in
      let c : length (counted_channels fs) < 65536 = omega (arith, few-channels (λ (c : ℕ). how_many c (map channel_of fs)) 63 0) in
      another f (files-fit g.all)
      (another i (images-fit g.all 0 (omega (arith, g.few)))
      (another c (channels-fit (λ (c : ℕ). how_many c (map channel_of fs)) counted-few 63 0 (omega arith)) no-section))

  pub tables-read : sections_of widths (written es) ≡ tables es
  unfolding written
  tables-read = sections-read tables-fit

  pub files-read : files_of (written es) ≡ fs
  unfolding sections_of
  files-read = ap (λ (ts : List (List Row)). get_or ts 0 []) tables-read

  pub images-read : images_of (written es) ≡ image_rows 0 es
  unfolding sections_of
  images-read = ap (λ (ts : List (List Row)). get_or ts 1 []) tables-read

  pub channels-read : channels_of (written es) ≡ counted_channels fs
  unfolding sections_of
  channels-read = ap (λ (ts : List (List Row)). get_or ts 2 []) tables-read

  pub files-good : {ds : List Entry} → AllGood ds → each good_file (map file_row ds) ≡ true
  unfolding each
  files-good AllGood.none = refl
  files-good (AllGood.one {e} g gs) =
      and_both (and_both (and_both (le-leb e.facts.channel.0 62 g.low) (le-leb e.facts.application.0 2015 g.free)) (le-leb 1 e.facts.bits g.some)) (files-good gs)

  written-whole : whole widths (written es) ≡ true
  unfolding written
  written-whole = sections-whole tables-fit

  -- .. is accepted
  pub tables-good : good_tables fs (image_rows 0 es) (counted_channels fs) ≡ true
  unfolding good_tables
  tables-good =
      let n = length-map es file_row in
      and_both (and_both (and_both (le-leb (length fs) 1024 (omega (arith, g.few))) (files-good g.all)) (rising-rows 0 (length fs) es (omega arith)))
      (rows_same (counted_channels fs))

  pub written-accepted : accepts (written es) ≡ true
  unfolding accepts
  written-accepted = rw (files-read, images-read, channels-read) (and_both written-whole tables-good)

-- two lists with the same octets are the same list
pub same-list : {es ds : List Entry} → Good es → Good ds → written es ≡ written ds → es ≡ ds
same-list {es} {ds} g h e =
    sym (list-rows 0 es) ∙ ap₂ (list_of 0) (sym (files-read g) ∙ ap files_of e ∙ files-read h) (sym (images-read g) ∙ ap images_of e ∙ images-read h)
    ∙ list-rows 0 ds

-- tables that are those of the list that they stand for
pub record Made (F I C : List Row) : Type 0 where
  pub reads : Reads 0 F I (list_of 0 F I)
  pub good : Good (list_of 0 F I)
  pub counts : C ≡ counted_channels (map file_row (list_of 0 F I))

-- tables that pass the tests are, whatever form they stand in
module _ (F I C : List Row) (e : good_tables F I C ≡ true) where
  pub table-few : length F ≤ 1024
  unfolding good_tables
  table-few =
      leb-true (length F) 1024
      (and_left (leb (length F) 1024) (each good_file F)
      (and_left (leb (length F) 1024 && each good_file F) (rising 0 (length F) I)
      (and_left (leb (length F) 1024 && each good_file F && rising 0 (length F) I) (same_rows C (counted_channels F)) e)))

  pub table-files : each good_file F ≡ true
  unfolding good_tables
  table-files =
      and_right (leb (length F) 1024) (each good_file F)
      (and_left (leb (length F) 1024 && each good_file F) (rising 0 (length F) I)
      (and_left (leb (length F) 1024 && each good_file F && rising 0 (length F) I) (same_rows C (counted_channels F)) e))

  pub table-rising : rising 0 (length F) I ≡ true
  unfolding good_tables
  table-rising =
      and_right (leb (length F) 1024 && each good_file F) (rising 0 (length F) I)
      (and_left (leb (length F) 1024 && each good_file F && rising 0 (length F) I) (same_rows C (counted_channels F)) e)

  -- "The channel counts always equal what counting the file section gives."
  pub table-counts : C ≡ counted_channels F
  unfolding good_tables
  table-counts =
      same-rows C (counted_channels F)
      (and_right (leb (length F) 1024 && each good_file F && rising 0 (length F) I) (same_rows C (counted_channels F)) e)

  pub tables-list : AllFit file_widths F → AllFit image_widths I → Made F I C
  tables-list a b =
      let r = reads 0 (length F) F I a b table-files (omega arith) table-rising in
      let ds = list_of 0 F I in
      let few : length ds ≤ 1024 = omega (arith, ap length r.files, length-map ds file_row, table-few) in
      record { reads = r; good = record { few = few; all = r.good }; counts = table-counts ∙ ap counted_channels (sym r.files) }

-- what is accepted is written for the list that its sections stand for
module _ (xs : List ℕ) (o : Octets xs) (e : accepts xs ≡ true) where
  pub all_whole : whole widths xs ≡ true
  unfolding accepts
  all_whole = and_left (whole widths xs) (good_tables (files_of xs) (images_of xs) (channels_of xs)) e

  pub all-good : good_tables (files_of xs) (images_of xs) (channels_of xs) ≡ true
  unfolding accepts
  all-good = and_right (whole widths xs) (good_tables (files_of xs) (images_of xs) (channels_of xs)) e

  pub few-files : length (files_of xs) ≤ 1024
  few-files = table-few (files_of xs) (images_of xs) (channels_of xs) all-good

  pub good-files : each good_file (files_of xs) ≡ true
  good-files = table-files (files_of xs) (images_of xs) (channels_of xs) all-good

  rows_fit : Sections widths (files_of xs ∷ images_of xs ∷ channels_of xs ∷ [])
  unfolding sections_of
  rows_fit = sections-fit widths xs o all_whole

  rows_written : sections widths (files_of xs ∷ images_of xs ∷ channels_of xs ∷ []) ≡ xs
  unfolding sections_of
  rows_written = sections-written widths xs o all_whole

  accepted-list : Made (files_of xs) (images_of xs) (channels_of xs)
  accepted-list = go rows_fit
    where
      go : Sections widths (files_of xs ∷ images_of xs ∷ channels_of xs ∷ []) → Made (files_of xs) (images_of xs) (channels_of xs)
      go (another f a (another i b s)) = tables-list (files_of xs) (images_of xs) (channels_of xs) all-good a b

  pub accepted-reads : Reads 0 (files_of xs) (images_of xs) (list_of 0 (files_of xs) (images_of xs))
  accepted-reads = accepted-list.reads

  pub accepted-written : Catalogue xs
  unfolding written
  accepted-written =
      let m = accepted-list in
      let ds = list_of 0 (files_of xs) (images_of xs) in (
        ds,
        m.good,
        sym rows_written ∙ ap₂ (λ (f i : List Row). sections widths (f ∷ i ∷ channels_of xs ∷ [])) (sym m.reads.files) (sym m.reads.images)
            ∙ ap (λ (d : List Row). sections widths (map file_row ds ∷ image_rows 0 ds ∷ d ∷ [])) m.counts,
      )

-- accepted exactly
pub accepts-exactly : (xs : List ℕ) → Octets xs → Decides (Catalogue xs) (accepts xs)
accepts-exactly xs o =
    decides-by (accepts xs) (accepted-written xs o)
    (λ e c. false≢true (sym e ∙ ap accepts c.2 ∙ written-accepted c.1))

pub accepted-iff : (xs : List ℕ) → Octets xs → (accepts xs ≡ true) ↔ Catalogue xs
accepted-iff xs o = exactly (accepts-exactly xs o)
