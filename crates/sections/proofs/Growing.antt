-- Entries written, and a section with more entries, in place. Assumes nothing.
use mathlib.Core.Path.{◌≡◌, refl, sym, ap, ap₂, ◌∙◌}
use mathlib.Core.List.{List, [], ◌∷◌, ◌++◌, append_assoc}
use mathlib.Core.Logic.{inl}
use Prim.Native.Nat.{ℕ, ◌+◌, ◌*◌, ◌≤◌}
use native.Mathlib.Omega.{arith}
use lib.ListN.{length, length-append, drop_of_length-le}
use Rattle.octets.specs.Number.{part, in_octets}
use Rattle.octets.specs.Buffer.{put}
use Rattle.octets.proofs.Lists.{whole_part}
use Rattle.octets.proofs.Put.{put-nil, put-put, put-before, length-put, part-put-out}
use Rattle.octets.proofs.Storing.{length-in_octets}
use Rattle.sections.specs.Sections.{Row, size, row, rows, section}

-- the loop that writes an entry: what is left of it, stored behind what was written, gives the entry
pub record Writing (ws vs was dst : List ℕ) (at p : ℕ) (widths numbers : List ℕ) : Type 0 where
  pub same : length numbers ≡ length widths
  pub room : p + size widths ≤ length dst
  pub gives : put was at (row ws vs) ≡ put dst p (row widths numbers)

pub writing : (ws vs was : List ℕ) (at : ℕ) → length vs ≡ length ws → at + size ws ≤ length was → Writing ws vs was was at at ws vs
writing ws vs was at e h = record { same = e; room = h; gives = refl }

module _ {ws vs was dst : List ℕ} {at p : ℕ} {widths numbers : List ℕ} (W : Writing ws vs was dst at p widths numbers) where
  pub write-room : {w : ℕ} {rest : List ℕ} → widths ≡ w ∷ rest → p + w ≤ length dst
  write-room e = omega (arith, ap size e, W.room)

  pub write-more : {w v : ℕ} {us xs d : List ℕ} → widths ≡ w ∷ us → numbers ≡ v ∷ xs → d ≡ put dst p (in_octets w v) → Writing ws vs was d at (p + w) us xs
  write-more {w} {v} {us} {xs} {d} e f q =
      let l : length d ≡ length dst = ap length q ∙ length-put dst p (in_octets w v) in
      let next : p + w ≡ p + length (in_octets w v) = omega (arith, length-in_octets w v) in
      record {
        same = omega (arith, W.same, ap length e, ap length f);
        room = omega (arith, ap size e, W.room, l);
        gives = W.gives ∙ ap (put dst p) (ap₂ row e f) ∙ sym (ap₂ (λ (b : List ℕ) (k : ℕ). put b k (row us xs)) q next ∙ put-put (in_octets w v) dst p (row us xs));
      }

  pub write-end : length widths ≡ 0 → dst ≡ put was at (row ws vs)
  write-end h =
      let none : widths ≡ [] = drop_of_length-le widths {i = 0} (omega arith) in
      sym (W.gives ∙ ap (λ (us : List ℕ). put dst p (row us numbers)) none ∙ put-nil dst p)

-- sections of joined lists
pub rows_append : (ws : List ℕ) (rs ss : List Row) → rows ws (rs ++ ss) ≡ rows ws rs ++ rows ws ss
unfolding rows
rows_append ws [] ss = refl
rows_append ws (r ∷ rs) ss = ap (λ (ys : List ℕ). row ws r ++ ys) (rows_append ws rs ss) ∙ sym (append_assoc (row ws r) (rows ws rs) (rows ws ss))

pub section-length : (ws : List ℕ) (rs : List Row) → length (section ws rs) ≡ 2 + length (rows ws rs)
unfolding section
section-length ws rs = length-append (in_octets 2 (length rs)) (rows ws rs) ∙ ap (λ (k : ℕ). k + length (rows ws rs)) (length-in_octets 2 (length rs))

-- what `grow_section` does
pub grown : (b : List ℕ) (at n w by : ℕ) (row D : List ℕ) → length D ≡ 2 → at + by + (2 + n * w + length row) ≤ length b
    → {b₁ b₂ b₃ : List ℕ} → b₁ ≡ put b (at + 2 + by) (part (at + 2) (n * w) b) → b₂ ≡ put b₁ (at + by) D → b₃ ≡ put b₂ (at + by + 2 + n * w) row
    → b₃ ≡ put b (at + by) (D ++ part (at + 2) (n * w) b ++ row)
grown b at n w by row D l room {b₁} {b₂} q₁ q₂ q₃ =
    let X = part (at + 2) (n * w) b in
    let long : length X ≡ n * w = whole_part b (at + 2) (n * w) (omega arith) in
    let p : at + 2 + by ≡ at + by + length D = omega arith in
    let two : b₂ ≡ put b (at + by) (D ++ X) = q₂ ∙ ap (λ (ys : List ℕ). put ys (at + by) D) q₁ ∙ put-before D X b (at + by) (at + 2 + by) p in
    let k : at + by + 2 + n * w ≡ at + by + length (D ++ X) = omega (arith, length-append D X) in
    q₃ ∙ ap₂ (λ (ys : List ℕ) (j : ℕ). put ys j row) two k ∙ put-put (D ++ X) b (at + by) row

-- one section more in front of those that stand in their places already
pub in-front : (ws : List ℕ) (b Y : List ℕ) (at by q n more : ℕ) (t u : List Row) (row : List ℕ)
    → part (at + 2) (n * size ws) b ≡ rows ws t → row ≡ rows ws u → length t ≡ n → length u ≡ more
    → at + 2 + n * size ws ≤ q → q ≡ at + by + (2 + n * size ws + length row) → at + 2 + n * size ws ≤ length b
    → {b₁ b₂ : List ℕ} → b₁ ≡ put b q Y → b₂ ≡ put b₁ (at + by) (in_octets 2 (n + more) ++ part (at + 2) (n * size ws) b₁ ++ row)
    → b₂ ≡ put b (at + by) (section ws (t ++ u) ++ Y)
unfolding section
in-front ws b Y at by q n more t u row stands er lt lu behind eq within {b₁} q₁ q₂ =
    let keep : part (at + 2) (n * size ws) b₁ ≡ rows ws t
    = ap (part (at + 2) (n * size ws)) q₁ ∙ part-put-out Y b q (at + 2) (n * size ws) (inl behind) ∙ stands in
    let count : length (t ++ u) ≡ n + more = length-append t u ∙ ap₂ (λ (i j : ℕ). i + j) lt lu in
    let S = in_octets 2 (n + more) ++ (rows ws t ++ rows ws u) in
    let same : in_octets 2 (n + more) ++ part (at + 2) (n * size ws) b₁ ++ row ≡ S
    = ap₂ (λ (x y : List ℕ). in_octets 2 (n + more) ++ x ++ y) keep er ∙ append_assoc (in_octets 2 (n + more)) (rows ws t) (rows ws u) in
    let long-t : length (rows ws t) ≡ n * size ws = sym (ap length stands) ∙ whole_part b (at + 2) (n * size ws) within in
    let long-s : q ≡ at + by + length S
    = omega (arith, length-append (in_octets 2 (n + more)) (rows ws t ++ rows ws u), length-append (rows ws t) (rows ws u), long-t, length-in_octets 2 (n + more), ap length er) in
    let whole-s : S ≡ in_octets 2 (length (t ++ u)) ++ rows ws (t ++ u) = ap₂ (λ (k : ℕ) (ys : List ℕ). in_octets 2 k ++ ys) (sym count) (sym (rows_append ws t u)) in
    q₂ ∙ ap₂ (λ (ys zs : List ℕ). put ys (at + by) zs) q₁ same ∙ put-before S Y b (at + by) q long-s ∙ ap (λ (zs : List ℕ). put b (at + by) (zs ++ Y)) whole-s
