-- The list that a file section and an image section stand for, and the sections of a list. Assumes nothing.
use Rattle.std.specs.Prelude.{Option, Some, None}
use mathlib.Core.Path.{◌≡◌, refl, sym, ap, ap₂, ◌∙◌}
use mathlib.Core.Bool.{true, ◌&&◌}
use mathlib.Core.List.{List, [], ◌∷◌, ◌++◌, map}
use Prim.Native.Nat.{ℕ, suc, ◌+◌}
use native.Mathlib.Omega.{arith}
use borrow.Author.Tests.{leb-true, ltb-true, le-leb, lt-ltb, eqb-true, eqb-false, eq-eqb, ne_eqb}
use lib.Dec.{leb, ltb, eqb}
use lib.ListN.{length, get_or}
use Rattle.octets.specs.Each.{each}
use Rattle.octets.proofs.Tests.{and_left, and_right, and_both}
use Rattle.octets.proofs.Lists.{if-cases}
use Rattle.catalogue.specs.declared.Entry.{Entry}
use Rattle.sections.specs.Sections.{Row, Fits, AllFit}
use Rattle.sections.specs.Sections.Fits.{no_field, field}
use Rattle.sections.specs.Sections.AllFit.{entry}
use Rattle.catalogue.specs.declared.Picture.{Picture}
use Rattle.catalogue.specs.Catalogue.{file_widths, file_row, image_widths, image_row, image_rows, GoodImage, GoodEntry, AllGood, good_file, rising, image_of, entry_of, list_of}

-- the indexes of a list's images rise
pub rising-later : (i n : ℕ) (rs : List Row) → rising (suc i) n rs ≡ true → rising i n rs ≡ true
unfolding rising
rising-later i n [] e = refl
rising-later i n (r ∷ rs) e =
    let x = get_or r 0 0 in
    let a = leb (suc i) x in
    let b = ltb x n in
    let l = leb-true (suc i) x (and_left a b (and_left (a && b) (rising (suc x) n rs) e)) in
    and_both (and_both (le-leb i x (omega arith)) (and_right a b (and_left (a && b) (rising (suc x) n rs) e)))
    (and_right (a && b) (rising (suc x) n rs) e)

pub rising-rows : (i n : ℕ) (es : List Entry) → n ≡ i + length es → rising i n (image_rows i es) ≡ true
unfolding rising image_rows
rising-rows i n [] e = refl
rising-rows i n (e ∷ es) h = go e.image refl (rising-rows (suc i) n es (omega arith))
  where
    go : (p : Option Picture) → e.image ≡ p → rising (suc i) n (image_rows (suc i) es) ≡ true → rising i n (image_row i p ++ image_rows (suc i) es) ≡ true
    go None q k = rising-later i n (image_rows (suc i) es) k
    go (Some p) q k = and_both (and_both (le-leb i i (omega arith)) (lt-ltb i n (omega arith))) k

-- a file whose index no image has
pub list-absent : (i n : ℕ) (f : Row) (fs rs : List Row) → rising (suc i) n rs ≡ true
    → list_of i (f ∷ fs) rs ≡ entry_of f None ∷ list_of (suc i) fs rs
unfolding list_of rising
list-absent i n f fs [] e = refl
list-absent i n f fs (r ∷ rs) e =
    let x = get_or r 0 0 in
    let a = leb (suc i) x in
    let b = ltb x n in
    let l = leb-true (suc i) x (and_left a b (and_left (a && b) (rising (suc x) n rs) e)) in
    rw (ne_eqb x i (λ q. omega arith))

-- the sections of a list stand for the list
pub list-rows : (i : ℕ) (es : List Entry) → list_of i (map file_row es) (image_rows i es) ≡ es
unfolding list_of image_rows
list-rows i [] = refl
list-rows i (e ∷ es) = go e.image refl (list-rows (suc i) es)
  where
    go : (p : Option Picture) → e.image ≡ p → list_of (suc i) (map file_row es) (image_rows (suc i) es) ≡ es
        → list_of i (file_row e ∷ map file_row es) (image_row i p ++ image_rows (suc i) es) ≡ e ∷ es
    go None q k =
        list-absent i (suc i + length es) (file_row e) (map file_row es) (image_rows (suc i) es) (rising-rows (suc i) (suc i + length es) es refl)
        ∙ ap₂ (λ (y : Entry) (ys : List Entry). y ∷ ys) (ap (entry_of (file_row e)) (sym q)) k
    go (Some p) q k =
        rw (eq-eqb i i refl) (ap₂ (λ (y : Entry) (ys : List Entry). y ∷ ys) (ap (entry_of (file_row e)) (sym q)) k)

-- what two sections stand for has these sections, and is good
pub record Reads (i : ℕ) (fs is : List Row) (es : List Entry) : Type 0 where
  pub files : map file_row es ≡ fs
  pub images : image_rows i es ≡ is
  pub good : AllGood es

file-back : (f : Row) (p : Option Picture) → Fits file_widths f → file_row (entry_of f p) ≡ f
file-back f p (field a (field b (field c (field d (field e no_field))))) = refl

file-good : (f : Row) (p : Option Picture) → Fits file_widths f → good_file f ≡ true → GoodImage p → GoodEntry (entry_of f p)
file-good f p (field {v = u} a (field {v = v} b (field c (field {v = w} d (field e no_field))))) h g =
    let ab = and_left (leb u 62 && leb v 2015) (leb 1 w) h in
    record {
      low = leb-true u 62 (and_left (leb u 62) (leb v 2015) ab);
      free = leb-true v 2015 (and_right (leb u 62) (leb v 2015) ab);
      some = leb-true 1 w (and_right (leb u 62 && leb v 2015) (leb 1 w) h);
      counted = c;
      long = d;
      octet = e;
      shown = g;
    }

image-good : (r : Row) → Fits image_widths r → GoodImage (image_of r)
image-good r (field a (field b (field c (field d (field e no_field))))) = GoodImage.some b c d e

image-back : (i : ℕ) (r : Row) → Fits image_widths r → get_or r 0 0 ≡ i → image_row i (image_of r) ≡ r ∷ []
image-back i r (field {v = x} a (field b (field c (field d (field e no_field))))) q = rw q

module _ {i : ℕ} {f : Row} {fs is : List Row} {es : List Entry} (fits : Fits file_widths f) (g : good_file f ≡ true) (r : Reads (suc i) fs is es) where
  reads-absent : Reads i (f ∷ fs) is (entry_of f None ∷ es)
  unfolding image_rows
  reads-absent =
      record {
        files = ap₂ (λ (y : Row) (ys : List Row). y ∷ ys) (file-back f None fits) r.files;
        images = r.images;
        good = AllGood.one (file-good f None fits g GoodImage.none) r.good;
      }

  reads-there : (x : Row) → Fits image_widths x → get_or x 0 0 ≡ i → Reads i (f ∷ fs) (x ∷ is) (entry_of f (image_of x) ∷ es)
  unfolding image_rows
  reads-there x k q =
      record {
        files = ap₂ (λ (y : Row) (ys : List Row). y ∷ ys) (file-back f (image_of x) fits) r.files;
        images = ap₂ (λ (a b : List Row). a ++ b) (image-back i x k q) r.images;
        good = AllGood.one (file-good f (image_of x) fits g (image-good x k)) r.good;
      }

pub reads : (i n : ℕ) (fs is : List Row) → AllFit file_widths fs → AllFit image_widths is → each good_file fs ≡ true → n ≡ i + length fs
    → rising i n is ≡ true → Reads i fs is (list_of i fs is)
unfolding list_of rising each image_rows
reads i n [] [] a b g h e = record { files = refl; images = refl; good = AllGood.none }
reads i n [] (r ∷ rs) a b g h e =
    let x = get_or r 0 0 in
    let u = leb i x in
    let v = ltb x n in
    let l = leb-true i x (and_left u v (and_left (u && v) (rising (suc x) n rs) e)) in
    let m = ltb-true x n (and_right u v (and_left (u && v) (rising (suc x) n rs) e)) in
    absurd (omega arith)
reads i n (f ∷ fs) [] (entry a cs) b g h e =
    reads-absent a (and_left (good_file f) (each good_file fs) g) (reads (suc i) n fs [] cs b (and_right (good_file f) (each good_file fs) g) (omega arith) refl)
reads i n (f ∷ fs) (r ∷ rs) (entry a cs) (entry b bs) g h e =
    let x = get_or r 0 0 in
    let u = leb i x in
    let v = ltb x n in
    let front = and_left (u && v) (rising (suc x) n rs) e in
    let back = and_right (u && v) (rising (suc x) n rs) e in
    let l = leb-true i x (and_left u v front) in
    let g₀ = and_left (good_file f) (each good_file fs) g in
    let g₁ = and_right (good_file f) (each good_file fs) g in
    if-cases (Reads i (f ∷ fs) (r ∷ rs)) (eqb x i)
    (λ q. reads-there a g₀ (reads (suc i) n fs rs cs bs g₁ (omega arith) (ap (λ (k : ℕ). rising (suc k) n rs) (sym (eqb-true x i q)) ∙ back)) r b (eqb-true x i q))
    (λ q. reads-absent a g₀
    (reads (suc i) n fs (r ∷ rs) cs (entry b bs) g₁ (omega arith)
    (and_both (and_both (le-leb (suc i) x (omega (arith, eqb-false x i q))) (and_right u v front)) back)))
