-- Entries and sections by the places at which they begin. Assumes nothing.
use mathlib.Core.Path.{◌≡◌, sym, ap, ap₂, ◌∙◌}
use mathlib.Core.Bool.{Bool, true, false, ◌&&◌}
use mathlib.Core.List.{List, [], ◌∷◌}
use Prim.Native.Nat.{ℕ, zero, suc, ◌+◌, ◌*◌, ◌-◌, ◌<◌, ◌≤◌}
use native.Mathlib.Nat.{add-zero, suc-mul}
use native.Mathlib.Omega.{arith}
use borrow.Author.Tests.{leb-true, lt-leb}
use lib.Dec.{leb}
use lib.ListN.{length, drop, get_or, length-drop}
use lib.Seq.{drop-drop}
use Rattle.octets.specs.Number.{number_at}
use Rattle.octets.proofs.Numbers.{number_at-drop}
use Rattle.sections.specs.Sections.{size, values, entries, extent, whole}

-- the next entry
pub entries_next : (ws s : List ℕ) (p n i : ℕ) → i < n
    → entries ws (n - i) (drop p s) ≡ values ws (drop p s) 0 ∷ entries ws (n - (i + 1)) (drop (p + size ws) s)
unfolding entries
entries_next ws s p n i h =
    let m : n - i ≡ suc (n - (i + 1)) = omega arith in
    rw m (ap (λ (ys : List ℕ). values ws (drop p s) 0 ∷ entries ws (n - (i + 1)) ys) (drop-drop (size ws) p s))

pub entries_none : (ws s : List ℕ) (p n i : ℕ) → n ≤ i → entries ws (n - i) (drop p s) ≡ []
unfolding entries
entries_none ws s p n i h =
    let m : n - i ≡ 0 = omega arith in
    rw m

-- whether a section is there
module _ (s : List ℕ) (at w : ℕ) where
  pub fits_not : length s - at < 2 → false ≡ leb (2 + number_at (drop at s) 0 2 * w) (length (drop at s))
  fits_not h = sym (lt-leb (2 + number_at (drop at s) 0 2 * w) (length (drop at s)) (omega (arith, length-drop at s)))

  pub fits-so : (x : ℕ) → x ≡ number_at s at 2 → leb (2 + x * w) (length s - at) ≡ leb (2 + number_at (drop at s) 0 2 * w) (length (drop at s))
  fits-so x e =
      let z : x ≡ number_at (drop at s) 0 2 = e ∙ sym (number_at-drop at s 0 2 ∙ ap (λ (k : ℕ). number_at s k 2) (add-zero at)) in
      ap₂ (λ (a b : ℕ). leb (2 + a * w) b) z (sym (length-drop at s))

-- the sections by their places
pub whole-next : (ws : List ℕ) (wss : List (List ℕ)) (s : List ℕ) (p x : ℕ) → x ≡ number_at s p 2
    → whole (ws ∷ wss) (drop p s) ≡ (leb (2 + number_at (drop p s) 0 2 * size ws) (length (drop p s)) && whole wss (drop (p + (2 + x * size ws)) s))
unfolding whole extent
whole-next ws wss s p x e =
    let z : number_at (drop p s) 0 2 ≡ x = number_at-drop p s 0 2 ∙ ap (λ (k : ℕ). number_at s k 2) (add-zero p) ∙ sym e in
    ap (λ (ys : List ℕ). leb (2 + number_at (drop p s) 0 2 * size ws) (length (drop p s)) && whole wss ys)
    (ap (λ (k : ℕ). drop (2 + k * size ws) (drop p s)) z ∙ drop-drop (2 + x * size ws) p s)

-- a section that is there ends within the octets
pub fits-here : (s : List ℕ) (at w : ℕ) {r : Bool} → r ≡ leb (2 + number_at (drop at s) 0 2 * w) (length (drop at s)) → r ≡ true → at ≤ length s
    → (x : ℕ) → x ≡ number_at s at 2 → at + (2 + x * w) ≤ length s
fits-here s at w e t h x q =
    let z : number_at (drop at s) 0 2 ≡ x = number_at-drop at s 0 2 ∙ ap (λ (k : ℕ). number_at s k 2) (add-zero at) ∙ sym q in
    let l : 2 + x * w ≤ length (drop at s) = rw z at (leb-true (2 + number_at (drop at s) 0 2 * w) (length (drop at s)) (sym e ∙ t)) in
    omega (arith, length-drop at s)

-- entry i of the n entries that begin at place p
pub entry_at : (ws s : List ℕ) (p n i : ℕ) → i < n → get_or (entries ws n (drop p s)) i [] ≡ values ws (drop (p + i * size ws) s) 0
unfolding entries
entry_at ws s p zero i h = absurd (omega arith)
entry_at ws s p (suc n) zero h =
    let k : p ≡ p + 0 * size ws = omega arith in
    ap (λ (j : ℕ). values ws (drop j s) 0) k
entry_at ws s p (suc n) (suc i) h =
    let k : p + size ws + i * size ws ≡ p + suc i * size ws = rw (suc-mul i (size ws)) (omega arith) in
    ap (λ (ys : List ℕ). get_or (entries ws n ys) i []) (drop-drop (size ws) p s) ∙ entry_at ws s (p + size ws) n i (omega arith)
    ∙ ap (λ (j : ℕ). values ws (drop j s) 0) k
