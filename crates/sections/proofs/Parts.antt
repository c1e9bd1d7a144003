-- The laws of sections, for any widths: what is written is read, what is read is written. Assumes nothing.
use mathlib.Core.Path.{◌≡◌, refl, sym, ap, ap₂, ◌∙◌}
use mathlib.Core.Bool.{true}
use mathlib.Core.List.{List, [], ◌∷◌, ◌++◌, append_assoc}
use Prim.Native.Nat.{ℕ, zero, suc, ◌+◌, ◌*◌, ◌^◌, ◌<◌, ◌≤◌}
use native.Mathlib.Nat.{suc-mul}
use native.Mathlib.Omega.{arith}
use borrow.Author.Tests.{leb-true, le-leb, eqb-true}
use lib.Dec.{leb}
use lib.ListN.{length, take, drop, length-append, length-drop, take-append-drop}
use lib.Seq.{take_at, drop_at, take-add}
use Rattle.octets.specs.Number.{Octets, part, number, number_at, in_octets}
use Rattle.octets.proofs.Lists.{part-add}
use Rattle.octets.proofs.Tests.{and_left, and_right, and_both}
use Rattle.octets.proofs.Numbers.{octets-drop, octets-bits, number_at-below}
use Rattle.sections.specs.Sections.{Row, size, row, rows, section, sections, values, entries, extent, section_of, sections_of, whole, Fits, AllFit, Sections}
use Rattle.sections.specs.Sections.Fits.{no_field, field}
use Rattle.sections.specs.Sections.AllFit.{no-entry, entry}
use Rattle.sections.specs.Sections.Sections.{no-section, another}
use Rattle.octets.proofs.Storing.{length-in_octets, number-in_octets, in_octets-part}

pub number_at-mid : (front d back : List ℕ) (at w : ℕ) → length front ≡ at → length d ≡ w → number_at (front ++ d ++ back) at w ≡ number d
unfolding number_at
number_at-mid front d back at w e f =
    ap number (ap (λ (ys : List ℕ). part at w ys) (append_assoc front d back) ∙ ap (take w) (drop_at front (d ++ back) at e) ∙ take_at d back w f)

pub length-row : {ws vs : List ℕ} → Fits ws vs → length (row ws vs) ≡ size ws
length-row no_field = refl
length-row (field {w} {v} {ws} {vs} h f) = length-append (in_octets w v) (row ws vs) ∙ ap₂ (λ (a b : ℕ). a + b) (length-in_octets w v) (length-row f)

-- one entry: written, then read
pub values-row : {ws vs : List ℕ} → Fits ws vs → (front back : List ℕ) (at : ℕ) → length front ≡ at → values ws (front ++ row ws vs ++ back) at ≡ vs
values-row no_field front back at e = refl
values-row (field {w} {v} {ws} {vs} h f) front back at e =
    let d = in_octets w v in
    let r = row ws vs in
    let one : front ++ (d ++ r) ++ back ≡ front ++ d ++ (r ++ back) = simp append_assoc in
    let two : front ++ (d ++ r) ++ back ≡ (front ++ d) ++ r ++ back = simp append_assoc in
    let long : length (front ++ d) ≡ at + w = length-append front d ∙ ap₂ (λ (a b : ℕ). a + b) e (length-in_octets w v) in
    ap₂ (λ (y : ℕ) (ys : List ℕ). y ∷ ys)
    (ap (λ (ys : List ℕ). number_at ys at w) one ∙ number_at-mid front d (r ++ back) at w e (length-in_octets w v) ∙ number-in_octets w v h)
    (ap (λ (ys : List ℕ). values ws ys (at + w)) two ∙ values-row f (front ++ d) back (at + w) long)

-- one entry: read, then written
pub row-values : (ws xs : List ℕ) (at : ℕ) → Octets xs → at + size ws ≤ length xs → row ws (values ws xs at) ≡ part at (size ws) xs
row-values [] xs at o h = refl
row-values (w ∷ ws) xs at o h =
    ap₂ (λ (a b : List ℕ). a ++ b) (in_octets-part xs at w o (omega arith)) (row-values ws xs (at + w) o (omega arith)) ∙ sym (part-add xs at w (size ws))

pub values-fit : (ws xs : List ℕ) (at : ℕ) → Octets xs → Fits ws (values ws xs at)
values-fit [] xs at o = no_field
values-fit (w ∷ ws) xs at o =
    let h : number_at xs at w < 256 ^ w = rw octets-bits (number_at-below xs at w o) in
    field h (values-fit ws xs (at + w) o)

module _ (ws : List ℕ) where
  pub length-rows : {rs : List Row} → AllFit ws rs → length (rows ws rs) ≡ length rs * size ws
  unfolding rows
  length-rows no-entry = omega arith
  length-rows (entry {r} {rs} f g) =
      length-append (row ws r) (rows ws rs) ∙ ap₂ (λ (a b : ℕ). a + b) (length-row f) (length-rows g) ∙ rw suc-mul (omega arith)

  pub length-entries : (n : ℕ) (xs : List ℕ) → length (entries ws n xs) ≡ n
  unfolding entries
  length-entries zero xs = refl
  length-entries (suc n) xs = ap suc (length-entries n (drop (size ws) xs))

  -- entries: written, then read
  pub entries-rows : {rs : List Row} → AllFit ws rs → (back : List ℕ) → entries ws (length rs) (rows ws rs ++ back) ≡ rs
  unfolding rows entries
  entries-rows no-entry back = refl
  entries-rows (entry {r} {rs} f g) back =
      let e = append_assoc (row ws r) (rows ws rs) back in
      ap₂ (λ (y : Row) (ys : List Row). y ∷ ys)
      (ap (λ (ys : List ℕ). values ws ys 0) e ∙ values-row f [] (rows ws rs ++ back) 0 refl)
      (ap (λ (ys : List ℕ). entries ws (length rs) (drop (size ws) ys)) e
      ∙ ap (entries ws (length rs)) (drop_at (row ws r) (rows ws rs ++ back) (size ws) (length-row f)) ∙ entries-rows g back)

  -- entries: read, then written
  pub rows-entries : (n : ℕ) (xs : List ℕ) → Octets xs → n * size ws ≤ length xs → rows ws (entries ws n xs) ≡ take (n * size ws) xs
  unfolding rows entries
  rows-entries zero xs o h =
      let z : 0 ≡ 0 * size ws = omega arith in
      ap (λ (k : ℕ). take k xs) z
  rows-entries (suc n) xs o h =
      let m : suc n * size ws ≡ size ws + n * size ws = rw suc-mul (omega arith) in
      ap₂ (λ (a b : List ℕ). a ++ b) (row-values ws xs 0 o (omega arith))
      (rows-entries n (drop (size ws) xs) (octets-drop xs (size ws) o) (omega (arith, length-drop (size ws) xs)))
      ∙ sym (take-add (size ws) (n * size ws) xs) ∙ ap (λ (k : ℕ). take k xs) (sym m)

  pub entries_fit : (n : ℕ) (xs : List ℕ) → Octets xs → AllFit ws (entries ws n xs)
  unfolding entries
  entries_fit zero xs o = no-entry
  entries_fit (suc n) xs o = entry (values-fit ws xs 0 o) (entries_fit n (drop (size ws) xs) (octets-drop xs (size ws) o))

  -- a section, written, then read: its count, its extent, its entries
  module _ {t : List Row} (few : length t < 65536) (f : AllFit ws t) (back : List ℕ) where
    pub count-section : number_at (section ws t ++ back) 0 2 ≡ length t
    unfolding section
    count-section =
        ap (λ (ys : List ℕ). number_at ys 0 2) (append_assoc (in_octets 2 (length t)) (rows ws t) back)
        ∙ number_at-mid [] (in_octets 2 (length t)) (rows ws t ++ back) 0 2 refl (length-in_octets 2 (length t)) ∙ number-in_octets 2 (length t) few

    pub extent-section : extent ws (section ws t ++ back) ≡ length (section ws t)
    unfolding extent section
    extent-section =
        rw count-section (sym (length-append (in_octets 2 (length t)) (rows ws t) ∙ ap₂ (λ (a b : ℕ). a + b) (length-in_octets 2 (length t)) (length-rows f)))

    pub behind-section : drop (extent ws (section ws t ++ back)) (section ws t ++ back) ≡ back
    behind-section = drop_at (section ws t) back (extent ws (section ws t ++ back)) (sym extent-section)

    pub section-read : section_of ws (section ws t ++ back) ≡ t
    unfolding section_of section
    section-read =
        ap (λ (k : ℕ). entries ws k (drop 2 (section ws t ++ back))) count-section
        ∙ ap (λ (ys : List ℕ). entries ws (length t) (drop 2 ys)) (append_assoc (in_octets 2 (length t)) (rows ws t) back)
        ∙ ap (entries ws (length t)) (drop_at (in_octets 2 (length t)) (rows ws t ++ back) 2 (length-in_octets 2 (length t))) ∙ entries-rows f back

  -- a section, read, then written
  module _ (xs : List ℕ) (o : Octets xs) (h : extent ws xs ≤ length xs) where
    pub section-written : section ws (section_of ws xs) ≡ take (extent ws xs) xs
    unfolding section section_of extent
    section-written =
        let n = number_at xs 0 2 in
        ap₂ (λ (a b : List ℕ). a ++ b)
        (ap (in_octets 2) (length-entries n (drop 2 xs)) ∙ in_octets-part xs 0 2 o (omega arith))
        (rows-entries n (drop 2 xs) (octets-drop xs 2 o) (omega (arith, length-drop 2 xs)))
        ∙ sym (take-add 2 (n * size ws) xs)

    pub section-few : length (section_of ws xs) < 65536
    unfolding section_of
    section-few = rw (length-entries (number_at xs 0 2) (drop 2 xs)) (number_at-below xs 0 2 o)

    pub section-fit : AllFit ws (section_of ws xs)
    unfolding section_of
    section-fit = entries_fit (number_at xs 0 2) (drop 2 xs) (octets-drop xs 2 o)

-- a row of sections: written, then read
pub sections-read : {wss : List (List ℕ)} {ts : List (List Row)} → Sections wss ts → sections_of wss (sections wss ts) ≡ ts
unfolding sections sections_of
sections-read no-section = refl
sections-read (another {ws} {wss} {t} {ts} few f s) =
    ap₂ (λ (y : List Row) (ys : List (List Row)). y ∷ ys) (section-read ws few f (sections wss ts))
    (ap (sections_of wss) (behind-section ws few f (sections wss ts)) ∙ sections-read s)

pub sections-whole : {wss : List (List ℕ)} {ts : List (List Row)} → Sections wss ts → whole wss (sections wss ts) ≡ true
unfolding sections whole
sections-whole no-section = refl
sections-whole (another {ws} {wss} {t} {ts} few f s) =
    let long = length-append (section ws t) (sections wss ts) in
    and_both (le-leb (extent ws (section ws t ++ sections wss ts)) (length (section ws t ++ sections wss ts)) (omega (arith, extent-section ws few f (sections wss ts))))
    (ap (whole wss) (behind-section ws few f (sections wss ts)) ∙ sections-whole s)

-- read, then written
pub sections-written : (wss : List (List ℕ)) (xs : List ℕ) → Octets xs → whole wss xs ≡ true → sections wss (sections_of wss xs) ≡ xs
unfolding sections sections_of whole
sections-written [] [] o e = refl
sections-written [] (x ∷ xs) o e = absurd (omega (arith, eqb-true (suc (length xs)) 0 e))
sections-written (ws ∷ wss) xs o e =
    let n = extent ws xs in
    let l = leb-true n (length xs) (and_left (leb n (length xs)) (whole wss (drop n xs)) e) in
    ap₂ (λ (a b : List ℕ). a ++ b) (section-written ws xs o l)
    (sections-written wss (drop n xs) (octets-drop xs n o) (and_right (leb n (length xs)) (whole wss (drop n xs)) e))
    ∙ take-append-drop n xs

pub sections-fit : (wss : List (List ℕ)) (xs : List ℕ) → Octets xs → whole wss xs ≡ true → Sections wss (sections_of wss xs)
unfolding sections_of whole
sections-fit [] xs o e = no-section
sections-fit (ws ∷ wss) xs o e =
    let n = extent ws xs in
    let l = leb-true n (length xs) (and_left (leb n (length xs)) (whole wss (drop n xs)) e) in
    another (section-few ws xs o l) (section-fit ws xs o l)
    (sections-fit wss (drop n xs) (octets-drop xs n o) (and_right (leb n (length xs)) (whole wss (drop n xs)) e))
