-- The catalogue with one entry more, by the sections of the one that there is. Assumes nothing.
use mathlib.Core.Path.{◌≡◌, refl, sym, ap, ap₂, ◌∙◌}
use mathlib.Core.Bool.{true}
use mathlib.Core.List.{List, [], ◌∷◌, ◌++◌, map, append-nil, append_assoc}
use Prim.Native.Nat.{ℕ, suc, ◌+◌, ◌*◌, ◌<◌, ◌≤◌}
use native.Mathlib.Omega.{arith}
use lib.ListN.{length, take, drop, get_or, set, replicate, length-append, length-map, length-drop}
use lib.Seq.{length-take-le}
use Rattle.octets.specs.Number.{Octets, part}
use Rattle.octets.specs.Each.{each}
use Rattle.octets.proofs.Lists.{part-part, whole_part}
use Rattle.octets.proofs.Numbers.{octets-drop, octets-take, number_at-below}
use Rattle.octets.proofs.Each.{each_append}
use Rattle.octets.proofs.Tests.{and_both}
use Rattle.sections.specs.Sections.{Row, rows, section, sections}
use Rattle.sections.proofs.Parts.{rows-entries, length-entries}
use Rattle.sections.proofs.Growing.{rows_append, section-length}
use Rattle.catalogue.specs.declared.Places.{Places}
use Rattle.catalogue.specs.declared.Entry.{Entry}
use Rattle.catalogue.specs.Catalogue.{file_widths, file_row, image_widths, image_row, image_rows, channel_widths, channel_rows, channel_of, counted_channels, widths, written, good_file, accepts, files_of, images_of, list_of, listed}
use Rattle.catalogue.specs.Reading.{tallied, Ready}
use Rattle.catalogue.specs.Entering.{entered}
use Rattle.catalogue.proofs.Exact.{accepted-reads, good-files, how-few}
use Rattle.catalogue.proofs.Counting.{counted, tallied-counts, zeros}
use Rattle.catalogue.proofs.Judging.{files-at, images-at}
use Rattle.grow.proofs.Writing.{length-image, one-file}

-- the images of a list with one file more
pub images-append : (i n : ℕ) (es : List Entry) (e : Entry) → n ≡ i + length es → image_rows i (es ++ (e ∷ [])) ≡ image_rows i es ++ image_row n e.image
unfolding image_rows
images-append i n [] e h =
    let k : i ≡ n = omega arith in
    append-nil (image_row i e.image) ∙ ap (λ (j : ℕ). image_row j e.image) k
images-append i n (d ∷ es) e h =
    ap (λ (rs : List Row). image_row i d.image ++ rs) (images-append (suc i) n es e (omega arith))
    ∙ sym (append_assoc (image_row i d.image) (image_rows (suc i) es) (image_row n e.image))

pub map-append : {A B : Type 0} (f : A → B) (xs ys : List A) → map f (xs ++ ys) ≡ map f xs ++ map f ys
map-append f [] ys = refl
map-append f (x ∷ xs) ys = ap (λ (zs : List _). f x ∷ zs) (map-append f xs ys)

-- the three sections with one entry more
module _ (xs : List ℕ) (o : Octets xs) (a : accepts xs ≡ true) (e : Entry) where
  abbrev news : List Row
  news = files_of xs ++ (file_row e ∷ [])

  pub entered-sections : (n : ℕ) → length (files_of xs) ≡ n
      → entered xs e ≡ sections widths (news ∷ (images_of xs ++ image_row n e.image) ∷ counted_channels news ∷ [])
  unfolding entered listed written
  entered-sections n q =
      let r = accepted-reads xs o a in
      let es = list_of 0 (files_of xs) (images_of xs) in
      let k : n ≡ 0 + length es = omega (arith, ap length r.files, length-map es file_row) in
      let f : map file_row (es ++ (e ∷ [])) ≡ news = map-append file_row es (e ∷ []) ∙ ap (λ (rs : List Row). rs ++ (file_row e ∷ [])) r.files in
      let i : image_rows 0 (es ++ (e ∷ [])) ≡ images_of xs ++ image_row n e.image
      = images-append 0 n es e k ∙ ap (λ (rs : List Row). rs ++ image_row n e.image) r.images in
      ap₂ (λ (g j : List Row). sections widths (g ∷ j ∷ counted_channels g ∷ [])) f i

-- how long they are
more-length : (F I cs : List Row) (e : Entry) (n : ℕ)
    → length (sections widths ((F ++ (file_row e ∷ [])) ∷ (I ++ image_row n e.image) ∷ cs ∷ []))
    ≡ 2 + length (rows file_widths F) + 14 + (2 + length (rows image_widths I) + length (image_row 0 e.image) * 8) + (2 + length (rows channel_widths cs))
unfolding sections
more-length F I cs e n =
    let f = F ++ (file_row e ∷ []) in
    let i = I ++ image_row n e.image in
    omega (
      arith,
      length-append (section file_widths f) (section image_widths i ++ (section channel_widths cs ++ [])),
      length-append (section image_widths i) (section channel_widths cs ++ []),
      length-append (section channel_widths cs) [],
      section-length file_widths f,
      section-length image_widths i,
      section-length channel_widths cs,
      ap length (rows_append file_widths F (file_row e ∷ [])),
      length-append (rows file_widths F) (rows file_widths (file_row e ∷ [])),
      one-file e,
      ap length (rows_append image_widths I (image_row n e.image)),
      length-append (rows image_widths I) (rows image_widths (image_row n e.image)),
      length-image n e.image,
    )

-- the counts with one file more
pub tallied-append : (cs xs : List ℕ) (x : ℕ) → tallied cs (xs ++ (x ∷ [])) ≡ set (tallied cs xs) x (get_or (tallied cs xs) x 0 + 1)
unfolding tallied
tallied-append cs [] x = refl
tallied-append cs (y ∷ xs) x = tallied-append (set cs y (get_or cs y 0 + 1)) xs x

pub tallied-small : (rs : List Row) (c : ℕ) → each good_file rs ≡ true → get_or (tallied (replicate 63 0) (map channel_of rs)) c 0 ≤ length rs
tallied-small rs c g =
    omega (arith, tallied-counts (replicate 63 0) rs c refl g, zeros 63 c, how-few c (map channel_of rs), length-map rs channel_of)

-- what is known of the buffer before the first octet is written
module _ {b : List ℕ} {used : ℕ} {at : Places} {e : Entry} {counts : List ℕ} (R : Ready b used at e counts) (o : Octets b) where
  abbrev xs : List ℕ
  xs = take used b

  abbrev now-counted : List Row
  now-counted = channel_rows (λ (c : ℕ). get_or counts c 0) 63 0

  pub octets-xs : Octets xs
  octets-xs = octets-take b used o

  long-xs : length xs ≡ used
  long-xs = length-take-le used b R.within

  pub ready-sizes : (at.second ≡ 2 + at.files * 14) × (at.third ≡ at.second + (2 + at.images * 8)) × (at.third ≤ length b)
  ready-sizes = (R.lies.second, R.lies.third, omega (arith, R.lies.ends, long-xs, R.within))

  pub ready-few : (at.files < 1024) × (at.images ≤ 65535)
  ready-few = (R.few, omega (arith, R.lies.images, number_at-below xs at.second 2 octets-xs))

  pub n-files : length (files_of xs) ≡ at.files
  n-files = ap length (files-at R.lies) ∙ length-entries file_widths at.files (drop 2 xs)

  pub n-images : length (images_of xs) ≡ at.images
  n-images = ap length (images-at R.lies) ∙ length-entries image_widths at.images (drop (at.second + 2) xs)

  pub stand-files : part 2 (at.files * 14) b ≡ rows file_widths (files_of xs)
  stand-files =
      let l = ready-sizes in
      sym (ap (rows file_widths) (files-at R.lies)
      ∙ rows-entries file_widths at.files (drop 2 xs) (octets-drop xs 2 octets-xs) (omega (arith, length-drop 2 xs, long-xs, R.lies.ends, l.0, l.1))
      ∙ part-part b 0 used 2 (at.files * 14) (omega (arith, long-xs, R.lies.ends, l.0, l.1)))

  pub stand-images : part (at.second + 2) (at.images * 8) b ≡ rows image_widths (images_of xs)
  stand-images =
      let l = ready-sizes in
      let z : 0 + (at.second + 2) ≡ at.second + 2 = omega arith in
      sym (ap (rows image_widths) (images-at R.lies)
      ∙ rows-entries image_widths at.images (drop (at.second + 2) xs) (octets-drop xs (at.second + 2) octets-xs)
      (omega (arith, length-drop (at.second + 2) xs, long-xs, R.lies.ends, l.1))
      ∙ part-part b 0 used (at.second + 2) (at.images * 8) (omega (arith, long-xs, R.lies.ends, l.1)) ∙ ap (λ (k : ℕ). part k (at.images * 8) b) z)

  all-news : each good_file (files_of xs ++ (file_row e ∷ [])) ≡ true
  unfolding each
  all-news = each_append good_file (files_of xs) (file_row e ∷ []) ∙ and_both (good-files xs octets-xs R.catalogue) (and_both R.good refl)

  pub counts-now : now-counted ≡ counted_channels (files_of xs ++ (file_row e ∷ []))
  counts-now =
      ap (λ (cs : List ℕ). channel_rows (λ (c : ℕ). get_or cs c 0) 63 0) R.counted ∙ counted (files_of xs ++ (file_row e ∷ [])) all-news

  -- how long the catalogue gets
  pub ready-length : length (entered xs e) ≡ at.third + 16 + length (image_row 0 e.image) * 8 + length (rows channel_widths now-counted)
  ready-length =
      let l = ready-sizes in
      let f = sym (ap length stand-files) ∙ whole_part b 2 (at.files * 14) (omega arith) in
      let i = sym (ap length stand-images) ∙ whole_part b (at.second + 2) (at.images * 8) (omega arith) in
      ap length (entered-sections xs octets-xs R.catalogue e at.files n-files)
      ∙ more-length (files_of xs) (images_of xs) (counted_channels (files_of xs ++ (file_row e ∷ []))) e at.files
      ∙ omega (arith, f, i, ap (λ (cs : List Row). length (rows channel_widths cs)) counts-now)
