-- `crc::by_tables` meets its contract. The loop's invariant: what is wanted is what the octets that are left make of the register.
-- Assumes nothing.
use mathlib.Core.Path.{◌≡◌, refl, sym, ap, subst, ◌∙◌}
use mathlib.Core.List.{List, [], ◌∷◌}
use Prim.Native.Nat.{ℕ, ◌+◌, ◌*◌, ◌<◌}
use native.Mathlib.Numerals.{add-one}
use native.Mathlib.Omega.{arith}
use lib.ListN.{length, get_or, drop}
use lib.Seq.{drop-cons}
use Rattle.crc.specs.Crc.{crc_from}
use Rattle.crc.proofs.Laws.{crc-below, none_left}
use Rattle.crc.proofs.Parts.{by-four}
use Rattle.crc.proofs.by_tables.Goals as goal

next : (xs : List ℕ) (i j : ℕ) → j ≡ i + 1 → i < length xs → drop i xs ≡ get_or xs i 0 ∷ drop j xs
next xs i j e h = drop-cons xs i 0 h ∙ ap (λ (k : ℕ). get_or xs i 0 ∷ drop k xs) (sym (e ∙ add-one i))

four-more : (xs : List ℕ) (c s i j t : ℕ) → i + 3 < length xs → t ≡ crc_from c (drop i xs)
    → s ≡ crc_from c (get_or xs i 0 ∷ get_or xs (i + 1) 0 ∷ get_or xs (i + 2) 0 ∷ get_or xs (i + 3) 0 ∷ []) → j ≡ i + 4 → t ≡ crc_from s (drop j xs)
unfolding crc_from
four-more xs c s i j t h e f g =
    let whole : drop i xs ≡ get_or xs i 0 ∷ get_or xs (i + 1) 0 ∷ get_or xs (i + 2) 0 ∷ get_or xs (i + 3) 0 ∷ drop (i + 4) xs =
    next xs i (i + 1) refl (omega arith)
    ∙ ap (λ (l : List ℕ). get_or xs i 0 ∷ l)
    (next xs (i + 1) (i + 2) (omega arith) (omega arith)
    ∙ ap (λ (l : List ℕ). get_or xs (i + 1) 0 ∷ l)
    (next xs (i + 2) (i + 3) (omega arith) (omega arith)
    ∙ ap (λ (l : List ℕ). get_or xs (i + 2) 0 ∷ l) (next xs (i + 3) (i + 4) (omega arith) h))) in
    rw (g, f) (e ∙ ap (crc_from c) whole)

pub loop-k-preserved : goal.loop-k-preserved
loop-k-preserved c =
    let inv = c.loop-k.invariant in
    let xs = c.args.octets.now in
    let i = 4 * c.loop-k.k in
    let register =
    by-four
    _
    _
    _
    _
    c.table-three.ensures
    c.table-two.ensures
    c.table-one.ensures
    c.table-none.ensures
    c.loop-k.c
    (get_or xs i 0)
    (get_or xs (i + 1) 0)
    (get_or xs (i + 2) 0)
    (get_or xs (i + 3) 0)
    inv.0
    (omega arith)
    (omega arith)
    (omega arith)
    (omega arith) in (
      subst (λ (r : ℕ). r < 0x10000) (sym register) (crc-below _ _ inv.0),
      four-more xs c.loop-k.c _ i _ _ (omega arith) inv.1 register (omega arith),
    )

pub returns : goal.returns
returns c = none_left c.args.octets.now _ (4 * c.loop-k.k) _ (omega arith) c.loop-k.invariant.1
