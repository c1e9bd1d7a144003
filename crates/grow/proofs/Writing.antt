-- Entries written, the loop over the channels, and their number. Assumes nothing.
use Rattle.std.specs.Prelude.{if◌then◌else◌, count_by, Option, Some, None}
use mathlib.Core.Path.{◌≡◌, refl, sym, ap, ap₂, ◌∙◌}
use mathlib.Core.Bool.{Bool, true, false, not, cond}
use mathlib.Core.List.{List, [], ◌∷◌, ◌++◌, append-nil}
use Prim.Native.Nat.{ℕ, suc, ◌+◌, ◌*◌, ◌-◌, ◌<◌, ◌≤◌}
use native.Mathlib.Nat.{add-zero, sub-zero}
use native.Mathlib.Omega.{arith}
use lib.Dec.{eqb}
use lib.ListN.{length, take, drop, get_or, length-append}
use lib.Seq.{take_all}
use Rattle.std.proofs.lemmas.List.Sums.{sum_by-cons}
use Rattle.octets.specs.Number.{in_octets}
use Rattle.octets.specs.Buffer.{put}
use Rattle.octets.proofs.Put.{put-nil, put-put, put_whole, length-put}
use Rattle.octets.proofs.Storing.{length-in_octets}
use Rattle.sections.specs.Sections.{Row, size, row, rows, section}
use Rattle.catalogue.specs.declared.Picture.{Picture}
use Rattle.catalogue.specs.declared.Entry.{Entry}
use Rattle.catalogue.specs.Catalogue.{file_widths, file_row, image_widths, image_row, channel_widths, channel_rows}
use Rattle.catalogue.proofs.Lengths.{file-fourteen, image-eight, channel-three}
use Rattle.catalogue.proofs.Counting.{rows-skip, rows_next, rows_none}

-- an entry has the octets of its widths, whatever its numbers
pub row-size : (ws vs : List ℕ) → length vs ≡ length ws → length (row ws vs) ≡ size ws
row-size [] vs e = refl
row-size (w ∷ ws) [] e = absurd (omega arith)
row-size (w ∷ ws) (v ∷ vs) e =
    length-append (in_octets w v) (row ws vs) ∙ ap₂ (λ (a b : ℕ). a + b) (length-in_octets w v) (row-size ws vs (omega arith))

-- an entry that fills the array in which it is made
pub row_made : (ws vs z : List ℕ) {d : List ℕ} → length vs ≡ length ws → length z ≡ size ws → d ≡ put z 0 (row ws vs) → d ≡ row ws vs
row_made ws vs z e l q = q ∙ put_whole z (row ws vs) (row-size ws vs e ∙ sym l)

-- one entry is a list of one
pub one-row : (ws : List ℕ) (r : Row) → rows ws (r ∷ []) ≡ row ws r
unfolding rows
one-row ws r = append-nil (row ws r)

-- the entry of the image section, or none
pub no-image : (i : ℕ) (d : List ℕ) {q : Option Picture} → q ≡ None → take (length (image_row 0 q) * 8) d ≡ rows image_widths (image_row i q)
unfolding rows
no-image i d e = rw e

pub an-image : (i : ℕ) {d : List ℕ} {q : Option Picture} {p : Picture} → q ≡ Some p
    → d ≡ row image_widths (i ∷ p.columns ∷ p.lines ∷ p.number ∷ p.total ∷ []) → take (length (image_row 0 q) * 8) d ≡ rows image_widths (image_row i q)
an-image i {d} {q} {p} e h =
    let r : Row = i ∷ p.columns ∷ p.lines ∷ p.number ∷ p.total ∷ [] in
    let l : length d ≤ 8 = omega (arith, ap length h, row-size image_widths r refl) in
    rw e (take_all 8 d l ∙ h ∙ sym (one-row image_widths r))

pub image-part : (q : Option Picture) (more : ℕ) (d : List ℕ) {r : List ℕ} → more ≡ length (image_row 0 q)
    → take (length (image_row 0 q) * 8) d ≡ r → take (more * 8 - 0) (drop 0 d) ≡ r
image-part q more d e h =
    let z : more * 8 - 0 ≡ length (image_row 0 q) * 8 = omega arith in
    ap (λ (k : ℕ). take k d) z ∙ h

pub count-image : (i : ℕ) (q : Option Picture) → length (image_row i q) ≡ length (image_row 0 q)
count-image i None = refl
count-image i (Some p) = refl

pub length-image : (i : ℕ) (q : Option Picture) → length (rows image_widths (image_row i q)) ≡ length (image_row 0 q) * 8
length-image i q = image-eight i q ∙ ap (λ (k : ℕ). k * 8) (count-image i q)

pub one-file : (e : Entry) → length (rows file_widths (file_row e ∷ [])) ≡ 14
one-file e = ap length (one-row file_widths (file_row e)) ∙ file-fourteen e

-- the loop that writes the channels: what is left to write, put behind what was written, gives the section's entries
pub record Noting (N at : ℕ) (counts was dst : List ℕ) (c p : ℕ) : Type 0 where
  pub long : length dst ≡ length was
  pub room : p + length (rows channel_widths (channel_rows (λ (x : ℕ). get_or counts x 0) (N - c) c)) ≤ length dst
  pub gives : put was at (rows channel_widths (channel_rows (λ (x : ℕ). get_or counts x 0) N 0))
      ≡ put dst p (rows channel_widths (channel_rows (λ (x : ℕ). get_or counts x 0) (N - c) c))

pub noting : (N at : ℕ) (counts was : List ℕ) → at + length (rows channel_widths (channel_rows (λ (x : ℕ). get_or counts x 0) N 0)) ≤ length was
    → Noting N at counts was was 0 at
noting N at counts was h = record { long = refl; room = simp sub-zero h; gives = simp sub-zero }

module _ {N at : ℕ} {counts was dst : List ℕ} {c p : ℕ} (W : Noting N at counts was dst c p) where
  abbrev f : ℕ → ℕ
  f x = get_or counts x 0

  abbrev this : List ℕ
  this = row channel_widths (c ∷ f c ∷ [])

  abbrev rest : List ℕ
  rest = rows channel_widths (channel_rows f (N - (c + 1)) (c + 1))

  pub note-skip : c < N → get_or counts c 0 ≡ 0 → Noting N at counts was dst (c + 1) p
  note-skip h e =
      let s = rows-skip f N c h e in
      record {
        long = W.long;
        room = rw s at W.room;
        gives = W.gives ∙ ap (λ (rs : List Row). put dst p (rows channel_widths rs)) s;
      }

  next-rows : c < N → (get_or counts c 0 ≡ 0 → ⊥) → rows channel_widths (channel_rows f (N - c) c) ≡ this ++ rest
  unfolding rows
  next-rows h e = ap (rows channel_widths) (rows_next f N c h e)

  pub note-room : c < N → (get_or counts c 0 ≡ 0 → ⊥) → p + 3 + length rest ≤ length dst
  note-room h e =
      omega (arith, ap length (next-rows h e), length-append this rest, channel-three c (f c), W.room)

  pub note-more : c < N → (get_or counts c 0 ≡ 0 → ⊥) → {d : List ℕ} → d ≡ put dst p this → Noting N at counts was d (c + 1) (p + 3)
  note-more h e {d} q =
      let same : length d ≡ length dst = ap length q ∙ length-put dst p this in
      let l : p + 3 ≡ p + length this = omega (arith, channel-three c (f c)) in
      record {
        long = same ∙ W.long;
        room = omega (arith, same, note-room h e);
        gives = W.gives ∙ ap (put dst p) (next-rows h e) ∙ sym (ap₂ (λ (b : List ℕ) (k : ℕ). put b k rest) q l ∙ put-put this dst p rest);
      }

  pub note-end : N ≤ c → dst ≡ put was at (rows channel_widths (channel_rows f N 0))
  unfolding rows
  note-end h = sym (W.gives ∙ ap (λ (rs : List Row). put dst p (rows channel_widths rs)) (rows_none f N c h) ∙ put-nil dst p)

-- the count of them: those whose number of files is not 0
spoken-from : (f : ℕ → ℕ) (ns : List ℕ) (c : ℕ) → ((i : ℕ) → get_or ns i 0 ≡ f (c + i))
    → count_by (λ (n : ℕ). not (eqb n 0)) ns ≡ length (channel_rows f (length ns) c)
unfolding channel_rows
spoken-from f [] c h = refl
spoken-from f (n ∷ ns) c h =
    let here : n ≡ f c = h 0 ∙ ap f (add-zero c) in
    let rest = spoken-from f ns (suc c) (λ i. h (suc i) ∙ ap f (omega arith)) in
    sum_by-cons (λ (x : ℕ). cond (not (eqb x 0)) 1 0) n ns ∙ rw (here, rest) (by-test (eqb (f c) 0))
  where
    by-test : (b : Bool) → cond (not b) 1 0 + length (channel_rows f (length ns) (suc c))
        ≡ length (if b then channel_rows f (length ns) (suc c) else (c ∷ f c ∷ []) ∷ channel_rows f (length ns) (suc c))
    by-test true = omega arith
    by-test false = omega arith

pub speaking : (counts : List ℕ) → length counts ≡ 63
    → count_by (λ (n : ℕ). not (eqb n 0)) counts ≡ length (channel_rows (λ (x : ℕ). get_or counts x 0) 63 0)
speaking counts e =
    spoken-from (λ (x : ℕ). get_or counts x 0) counts 0 (λ i. ap (λ (j : ℕ). get_or counts j 0) (omega arith))
    ∙ ap (λ (k : ℕ). length (channel_rows (λ (x : ℕ). get_or counts x 0) k 0)) e

-- the channel section: its count, then its entries
pub channels-made : (b : List ℕ) (p k : ℕ) (cs : List Row) {b₁ b₂ : List ℕ} → k ≡ length cs → b₁ ≡ put b p (in_octets 2 k)
    → b₂ ≡ put b₁ (p + 2) (rows channel_widths cs)
    → b₂ ≡ put b p (section channel_widths cs)
unfolding section
channels-made b p k cs ek q₁ q₂ =
    let l : p + 2 ≡ p + length (in_octets 2 k) = omega (arith, length-in_octets 2 k) in
    q₂ ∙ ap₂ (λ (ys : List ℕ) (j : ℕ). put ys j (rows channel_widths cs)) q₁ l ∙ put-put (in_octets 2 k) b p (rows channel_widths cs)
    ∙ ap (λ (j : ℕ). put b p (in_octets 2 j ++ rows channel_widths cs)) ek
