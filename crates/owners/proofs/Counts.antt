-- The pass over a table of owners, block by block, and what its tally tells: whether each owner is a slot or none, and how many blocks each
-- slot owns. Assumes nothing.
use Rattle.std.specs.Prelude.{if◌then◌else◌}
use mathlib.Core.Path.{◌≡◌, refl, sym, ap₂, subst, ◌∙◌}
use mathlib.Core.Bool.{true, true≢false}
use mathlib.Core.List.{List, ◌∷◌}
use Prim.Native.Nat.{ℕ, zero, suc, ◌+◌, ◌-◌, ◌≤◌, ◌<◌}
use native.Mathlib.Nat.{zero-add}
use native.Mathlib.Omega.{arith}
use borrow.Author.Tests.{eqb-true, eqb-false}
use lib.Dec.{eqb}
use lib.ListN.{length, get_or, set, take, replicate, length-set, get_or-replicate}
use lib.Seq.{drop-cons, length-take-le, get_or-set_same, get_or-set_other}
use Rattle.octets.specs.Number.{Octets, part}
use Rattle.octets.specs.Buffer.{all_zero}
use Rattle.octets.specs.Each.{each}
use Rattle.octets.proofs.Decide.{decides-by, decides-leb, decides-once}
use Rattle.octets.proofs.Each.{decides-each}
use Rattle.octets.proofs.Lists.{if-cases, part_at, whole_part}
use Rattle.octets.proofs.Zero.{all-blank, blank-at}
use Rattle.state.specs.Blocks.{numbers_of}
use Rattle.state.specs.Decision.{is_owner, block_counts}
use Rattle.owners.specs.Tally.{Tallies}
use Rattle.state.proofs.Blocks.{numbers-few, more-end, rank-low, entry-low, entry_here}

-- what is known after b blocks
pub record Tallied (owner : List ℕ) (b : ℕ) (tally : List ℕ) : Type 0 where
  pub all : length tally ≡ 256
  pub each-octet : Tallies (take b owner) tally

-- a tally of m blocks, where so many were passed
pub tallied-at : {owner tally : List ℕ} {b : ℕ} (m : ℕ) → length tally ≡ 256 → Tallies (take m owner) tally → m ≡ b → Tallied owner b tally
tallied-at {owner} {tally} m all t e = subst (λ (i : ℕ). Tallied owner i tally) e (record { all = all; each-octet = t })

pub tallied-none : (owner : List ℕ) → Tallied owner 0 (replicate 256 0)
unfolding numbers_of
tallied-none owner = record { all = refl; each-octet = λ o h. get_or-replicate 256 o 0 0 h }

module _ {owner : List ℕ} {b : ℕ} {tally : List ℕ} (c : Tallied owner b tally) (h : b < length owner) where
  -- no octet stands more often than blocks were passed
  pub tallied-few : (o : ℕ) → o < 256 → get_or tally o 0 ≤ b
  tallied-few o l = omega (arith, c.each-octet o l, numbers-few o 0 (take b owner), length-take-le b owner (omega arith))

  module _ (x : ℕ) (e : x ≡ get_or owner b 0) (low : x < 256) where
    once_more : (o : ℕ) → o < 256
        → get_or (set tally x (get_or tally x 0 + 1)) o 0 ≡ (if eqb x o then 1 else 0) + length (numbers_of o 0 (take b owner))
    once_more o l =
        let more = set tally x (get_or tally x 0 + 1) in
        let here : get_or more x 0 ≡ 1 + length (numbers_of x 0 (take b owner)) =
        get_or-set_same tally x (get_or tally x 0 + 1) 0 (omega (arith, c.all)) ∙ omega (arith, c.each-octet x low) in
        if-cases (λ (m : ℕ). get_or more o 0 ≡ m + length (numbers_of o 0 (take b owner))) (eqb x o)
        (λ q. subst (λ (i : ℕ). get_or more i 0 ≡ 1 + length (numbers_of i 0 (take b owner))) (eqb-true x o q) here)
        (λ q. get_or-set_other tally x o (get_or tally x 0 + 1) 0 (λ s. eqb-false x o q (sym s)) ∙ c.each-octet o l ∙ sym (zero-add _))

    pub tallied-more : Tallied owner (b + 1) (set tally x (get_or tally x 0 + 1))
    tallied-more =
        record {
          all = length-set tally x (get_or tally x 0 + 1) ∙ c.all;
          each-octet = λ o l. once_more o l ∙ rw e (sym (more-end owner b h o));
        }

-- what a tally tells
module _ (t tally : List ℕ) (all : length tally ≡ 256) (told : Tallies t tally) where
  pub slots_counts : (k n : ℕ) → k + n < 256 → part (suc k) n tally ≡ block_counts t k n
  unfolding block_counts
  slots_counts k zero h = refl
  slots_counts k (suc n) h =
      rw (drop-cons tally (suc k) 0 (omega arith))
      (ap₂ (λ (m : ℕ) (ms : List ℕ). m ∷ ms) (told (suc k) (omega arith)) (slots_counts (suc k) n (omega arith)))

  -- an octet past the last owner
  stray : Octets t → all_zero (part 33 223 tally) ≡ true → (i : ℕ) → i < length t → get_or t i 0 ≤ 32
  stray small blank i h =
      let o = get_or t i 0 in
      let over : 32 < o → ⊥ =
      λ l.
      let place : 33 + (o - 33) ≡ o = omega arith in
      let none : get_or tally o 0 ≡ 0 =
      rw place at (sym (part_at tally 33 223 (o - 33) 0 (omega (arith, small i))) ∙ blank-at (part 33 223 tally) (o - 33) blank) in
      omega (arith, none, told o (small i), rank-low o 0 t i h refl) in
      omega (arith, over)

  none-stray : ((i : ℕ) → i < length t → get_or t i 0 ≤ 32) → all_zero (part 33 223 tally) ≡ true
  none-stray low =
      let absent : (o : ℕ) → 32 < o → length (numbers_of o 0 t) ≡ 0 =
      λ o l.
      let some : 0 < length (numbers_of o 0 t) → ⊥ =
      λ h. omega (arith, low (get_or (numbers_of o 0 t) 0 0) (entry-low o t 0 h), entry_here o t 0 h) in
      omega (arith, some) in
      all-blank (part 33 223 tally)
      (λ i h.
      let l : i < 223 = omega (arith, whole_part tally 33 223 (omega arith)) in
      part_at tally 33 223 i 0 l ∙ told (33 + i) (omega arith) ∙ absent (33 + i) (omega arith))

  pub strays : Octets t → all_zero (part 33 223 tally) ≡ each is_owner t
  strays small =
      decides-once
      (decides-by (all_zero (part 33 223 tally)) (stray small) (λ e low. true≢false (sym (none-stray low) ∙ e)))
      (decides-each is_owner (λ (i : ℕ). get_or t i 0 ≤ 32) t 0 (λ i h. decides-leb (get_or t i 0) 32))
