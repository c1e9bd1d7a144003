-- Lists joined, of which all but the last have 8,190 elements: their length, their elements, and the blocks that begin with them.
-- Assumes nothing.
use mathlib.Core.Path.{◌≡◌, refl, sym, ap, ◌∙◌}
use mathlib.Core.List.{List, [], ◌∷◌, ◌++◌, append-nil, flatten, flat_map}
use Prim.Native.Nat.{ℕ, zero, suc, ◌+◌, ◌-◌, ◌*◌, ◌≤◌, ◌<◌}
use native.Mathlib.Nat.{zero-add}
use native.Mathlib.Omega.{arith}
use lib.ListN.{length, take, drop, get_or, length-append, get_or-append}
use lib.Seq.{take-take, take-append-add, get_or-append-add}
use Rattle.room.specs.File.{block_octets, joined}

abbrev pub Full : List (List ℕ) → Type 0
Full q = (i : ℕ) → i + 1 < length q → length (get_or q i []) ≡ 8190

full-tail : (e : List ℕ) (q : List (List ℕ)) → Full (e ∷ q) → Full q
full-tail e q f i l = f (suc i) (omega arith)

-- how long they are together
pub joined_length : (q : List (List ℕ)) → Full q → 1 ≤ length q → length (flatten q) + 8190 ≡ 8190 * length q + length (get_or q (length q - 1) [])
unfolding flatten
joined_length [] f l = absurd (omega arith)
joined_length (e ∷ []) f l = omega (arith, ap length (append-nil e))
joined_length (e ∷ d ∷ q) f l =
    let n : suc (suc (length q)) - 1 ≡ suc (suc (length q) - 1) = omega arith in
    omega (
      arith,
      length-append e (flatten (d ∷ q)),
      f 0 (omega arith),
      joined_length (d ∷ q) (full-tail e (d ∷ q) f) (omega arith),
      ap (λ (i : ℕ). length (get_or (e ∷ d ∷ q) i [])) n,
    )

-- which of them has an element, and where
pub joined_at : (q : List (List ℕ)) → Full q → (m r : ℕ) → m < length q → r < 8190 → get_or (flatten q) (8190 * m + r) 0 ≡ get_or (get_or q m []) r 0
unfolding flatten
joined_at [] f m r l h = absurd (omega arith)
joined_at (e ∷ []) f zero r l h = rw (append-nil, zero-add)
joined_at (e ∷ []) f (suc m) r l h = absurd (omega arith)
joined_at (e ∷ d ∷ q) f zero r l h = rw zero-add (get_or-append e (flatten (d ∷ q)) 0 r (omega (arith, f 0 (omega arith))))
joined_at (e ∷ d ∷ q) f (suc m) r l h =
    let n : 8190 * suc m + r ≡ length e + (8190 * m + r) = omega (arith, f 0 (omega arith)) in
    ap (λ (i : ℕ). get_or (e ++ flatten (d ∷ q)) i 0) n ∙ get_or-append-add e (flatten (d ∷ q)) (8190 * m + r) 0
    ∙ joined_at (d ∷ q) (full-tail e (d ∷ q) f) m r (omega arith) h

-- stretches of at most n octets that begin with them: over any n, since 8,190 would be written out
begun : (n : ℕ) (g : ℕ → List ℕ) → ((b : ℕ) → take n (g b) ≡ g b) → (q : List (List ℕ)) (bs : List ℕ) → length bs ≡ length q
    → ((i : ℕ) → i + 1 < length q → length (get_or q i []) ≡ n)
    → ((i : ℕ) → i < length q → take (length (get_or q i [])) (g (get_or bs i 0)) ≡ get_or q i [])
    → take (length (flatten q)) (flat_map g bs) ≡ flatten q
unfolding flatten flat_map
begun n g w [] bs e f t = refl
begun n g w (x ∷ q) [] e f t = absurd (omega arith)
begun n g w (x ∷ []) (b ∷ []) e f t = rw (append-nil x, append-nil (g b)) (t 0 (omega arith))
begun n g w (x ∷ []) (b ∷ c ∷ bs) e f t = absurd (omega arith)
begun n g w (x ∷ y ∷ q) (b ∷ bs) e f t =
    let here : g b ≡ x = sym (w b) ∙ ap (λ (i : ℕ). take i (g b)) (sym (f 0 (omega arith))) ∙ t 0 (omega arith) in
    rw (here, length-append x (flatten (y ∷ q)), take-append-add x)
    (ap (λ (ys : List ℕ). x ++ ys)
    (begun n g w (y ∷ q) bs (omega arith) (λ i l. f (suc i) (omega arith)) (λ i l. t (suc i) (omega arith))))

-- blocks that begin with them
pub joined-blocks : (store : List ℕ) (q : List (List ℕ)) (bs : List ℕ) → length bs ≡ length q → Full q
    → ((i : ℕ) → i < length q → take (length (get_or q i [])) (block_octets store (get_or bs i 0)) ≡ get_or q i [])
    → take (length (flatten q)) (joined store bs) ≡ flatten q
unfolding joined
joined-blocks store = begun 8190 (block_octets store) (λ b. take-take 8190 8190 (drop (8190 * b) store) (omega arith))
