-- Sections one after the other, by the sizes of their entries. Assumes nothing.
use mathlib.Core.Path.{◌≡◌, refl, sym, ap, ◌∙◌}
use mathlib.Core.Bool.{Bool, true, false, ◌&&◌}
use mathlib.Core.List.{List, [], ◌∷◌, map}
use Prim.Native.Nat.{ℕ, suc, ◌+◌, ◌*◌, ◌<◌, ◌≤◌}
use native.Mathlib.Nat.{add-zero}
use native.Mathlib.Numerals.{add-one}
use native.Mathlib.Omega.{arith}
use lib.Dec.{leb, eqb}
use lib.ListN.{length, drop, get_or, length-drop, drop_of_length-le}
use lib.Seq.{drop-cons, drop-drop}
use Rattle.octets.specs.Number.{number_at}
use Rattle.sections.specs.Sections.{size, extent, whole, whole_by}
use Rattle.octets.proofs.Numbers.{number_at-drop}
use Rattle.octets.proofs.Tests.{same_test}
use Rattle.sections.proofs.Walks.{fits-here}

pub whole_by_lem : (wss : List (List ℕ)) (xs : List ℕ) → whole wss xs ≡ whole_by (map size wss) xs
unfolding whole whole_by extent
whole_by_lem [] xs = refl
whole_by_lem (ws ∷ wss) xs =
    ap (λ (t : Bool). leb (2 + number_at xs 0 2 * size ws) (length xs) && t) (whole_by_lem wss (drop (2 + number_at xs 0 2 * size ws) xs))

pub record Chaining (s : List ℕ) (at : ℕ) (sizes : List ℕ) (k p : ℕ) : Type 0 where
  pub within : p ≤ length s
  pub gives : whole_by sizes (drop at s) ≡ whole_by (drop k sizes) (drop p s)

pub chaining : (s : List ℕ) (at : ℕ) (sizes : List ℕ) → at ≤ length s → Chaining s at sizes 0 at
chaining s at sizes h = record { within = h; gives = refl }

module _ {s : List ℕ} {at : ℕ} {sizes : List ℕ} {k p : ℕ} (C : Chaining s at sizes k p) (h : k < length sizes) where
  abbrev w : ℕ
  w = get_or sizes k 0

  abbrev here : Bool
  here = leb (2 + number_at (drop p s) 0 2 * w) (length (drop p s))

  turn : whole_by sizes (drop at s) ≡ (here && whole_by (drop (suc k) sizes) (drop (2 + number_at (drop p s) 0 2 * w) (drop p s)))
  unfolding whole_by
  turn = C.gives ∙ ap (λ (ws : List ℕ). whole_by ws (drop p s)) (drop-cons sizes k 0 h)

  pub chain-bad : here ≡ false → false ≡ whole_by sizes (drop at s)
  chain-bad e = sym (turn ∙ rw e)

  pub chain-room : {r : Bool} → r ≡ here → r ≡ true → (x : ℕ) → x ≡ number_at s p 2 → p + (2 + x * w) ≤ length s
  chain-room e t x q = fits-here s p w e t C.within x q

  pub chain_more : {r : Bool} → r ≡ here → r ≡ true → (x : ℕ) → x ≡ number_at s p 2 → Chaining s at sizes (k + 1) (p + (2 + x * w))
  chain_more e t x q =
      let z : number_at (drop p s) 0 2 ≡ x = number_at-drop p s 0 2 ∙ ap (λ (j : ℕ). number_at s j 2) (add-zero p) ∙ sym q in
      record {
        within = chain-room e t x q;
        gives = turn ∙ rw (sym e ∙ t)
            (ap (λ (j : ℕ). whole_by (drop (suc k) sizes) (drop (2 + j * w) (drop p s))) z ∙ ap (whole_by (drop (suc k) sizes)) (drop-drop (2 + x * w) p s)
            ∙ ap (λ (j : ℕ). whole_by (drop j sizes) (drop (p + (2 + x * w)) s)) (sym (add-one k)));
      }

pub chain-end : {s : List ℕ} {at : ℕ} {sizes : List ℕ} {k p : ℕ} → Chaining s at sizes k p → length sizes ≤ k → eqb p (length s) ≡ whole_by sizes (drop at s)
unfolding whole_by
chain-end {s} {at} {sizes} {k} {p} C h =
    sym (C.gives ∙ ap (λ (ws : List ℕ). whole_by ws (drop p s)) (drop_of_length-le sizes h)
    ∙ same_test (length (drop p s)) 0 p (length s) (λ q. omega (arith, length-drop p s, C.within)) (λ q. omega (arith, length-drop p s)))
