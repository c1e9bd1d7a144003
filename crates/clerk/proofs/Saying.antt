-- Numbers written one behind the other, and the line of a letter. Assumes nothing.
use mathlib.Core.Path.{◌≡◌, refl, ◌∙◌}
use mathlib.Core.List.{List, [], ◌∷◌, ◌++◌, flat_map}
use Prim.Native.Nat.{ℕ, ◌+◌, ◌*◌, ◌≤◌, ◌<◌}
use native.Mathlib.Numerals.{add-one}
use native.Mathlib.Omega.{arith}
use lib.ListN.{length, get_or, take, drop, length-take, drop_of_length-le}
use lib.Seq.{drop-cons}
use Rattle.text.specs.Pieces.{Written, spaced}
use Rattle.text.specs.Lines.{newline}
use Rattle.text.proofs.Following.{Writing, nothing, begun, went_on, done}
use Rattle.clerk.specs.declared.answers.Said.{Said}
use Rattle.clerk.specs.Printed.{said_line}

-- the first i numbers were written
pub record Spacing (ns before : List ℕ) (at : ℕ) (out : List ℕ) (end i : ℕ) : Type 0 where
  pub within : i ≤ length ns
  pub few : end ≤ at + 21 * i
  pub room : length out ≡ length before
  pub gives : Writing before at (flat_map spaced ns) out end (flat_map spaced (drop i ns))

pub spacing-none : (ns before : List ℕ) (at : ℕ) → Spacing ns before at before at 0
spacing-none ns before at = record { within = omega arith; few = omega arith; room = refl; gives = begun before (flat_map spaced ns) at }

module _ {ns before out : List ℕ} {at end i : ℕ} (g : Spacing ns before at out end i) where
  pub spacing-more : {after : List ℕ} {next : ℕ} → i < length ns → next ≤ end + 21 → length after ≡ length out
      → Written out end (spaced (get_or ns i 0)) after next → Spacing ns before at after next (i + 1)
  unfolding flat_map
  spacing-more h few room w =
      let here : flat_map spaced (drop i ns) ≡ spaced (get_or ns i 0) ++ flat_map spaced (drop (i + 1) ns) = rw (drop-cons ns i 0 h, add-one i) in
      record { within = omega arith; few = omega (arith, g.few); room = room ∙ g.room; gives = went_on (rw here at g.gives) w }

  pub spacing-all : length ns ≤ i → Written before at (flat_map spaced ns) out end
  unfolding flat_map
  spacing-all h = done (rw (drop_of_length-le ns h) at g.gives)

line-told : (letter : ℕ) (ns : List ℕ) {before after : List ℕ} {end : ℕ} → 0 < length ns
    → Written before 0 (letter ∷ [] ++ flat_map spaced ns ++ newline) after end → Written before 0 (said_line letter ns) after end
line-told letter [] h w = absurd (omega arith)
line-told letter (n ∷ ns) h w = w

module _ (letter : ℕ) (s : Said) {before : List ℕ} where
  pub nothing-told : s.count ≡ 0 → Written before 0 (said_line letter (take s.count s.numbers)) before 0
  nothing-told e = rw e (nothing before 0)

  -- the numbers as they are lent, `&numbers[..n]`
  pub said-told : {after : List ℕ} {end : ℕ} → (s.count ≡ 0 → ⊥) → length s.numbers ≡ 6
      → Written before 0 (letter ∷ [] ++ flat_map spaced (take s.count s.numbers) ++ newline) after end
      → Written before 0 (said_line letter (take s.count s.numbers)) after end
  said-told n size w =
      line-told letter (take s.count s.numbers) (omega (arith, n, size, length-take s.count s.numbers)) w
