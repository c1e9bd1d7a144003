-- The lines of events, one behind the other, the three texts of a read, and the line of facts that are refused. Assumes nothing.
use Rattle.std.specs.Prelude.{if◌then◌else◌}
use mathlib.Core.Path.{◌≡◌, refl, sym, ap, subst, ◌∙◌}
use mathlib.Core.Bool.{Bool, true, false, ◌&&◌}
use mathlib.Core.List.{List, [], ◌∷◌, ◌++◌, append-nil, flat_map}
use Prim.Native.Nat.{ℕ, suc, ◌+◌, ◌-◌, ◌*◌, ◌≤◌, ◌<◌}
use native.Mathlib.Nat.{add-zero, sub-zero}
use native.Mathlib.Omega.{arith}
use borrow.Author.Tests.{eq-eqb, ne_eqb}
use lib.Dec.{eqb}
use lib.ListN.{length, get_or, drop}
use lib.Seq.{drop-drop, get_or-drop}
use Rattle.text.specs.Pieces.{Written, spaced, in_hex}
use Rattle.text.specs.Lines.{newline}
use Rattle.text.proofs.Following.{Writing, begun, went_on, done}
use Rattle.lines.specs.Lines.{event_line, event_lines, answer_line, octets_read, read_line, told_line}

-- the lines of the events that are left, from event i on: its own first
lines_next : (list : List ℕ) (n i : ℕ) → i < n
    → event_lines (n - i) (drop (3 * i) list)
    ≡ (event_line (get_or list (3 * i) 0) (get_or list (3 * i + 1) 0) (get_or list (3 * i + 2) 0) ++ event_lines (n - (i + 1)) (drop (3 * (i + 1)) list))
unfolding event_lines
lines_next list n i h =
    let left : n - i ≡ suc (n - (i + 1)) = omega arith in
    let third : 3 * i + 3 ≡ 3 * (i + 1) = omega arith in
    ap (λ (k : ℕ). event_lines k (drop (3 * i) list)) left ∙ simp (get_or-drop, drop-drop, add-zero, third)

-- the lines of the first i of n events were written
pub record Lining (list before : List ℕ) (n at : ℕ) (out : List ℕ) (end i : ℕ) : Type 0 where
  pub few : end ≤ at + 65 * i
  pub room : length out ≡ length before
  pub gives : Writing before at (event_lines n list) out end (event_lines (n - i) (drop (3 * i) list))

pub lining-none : (list before : List ℕ) (n at : ℕ) → Lining list before n at before at 0
lining-none list before n at = record { few = omega arith; room = refl; gives = rw sub-zero (begun before (event_lines n list) at) }

module _ {list before out : List ℕ} {n at end i : ℕ} (g : Lining list before n at out end i) where
  pub lining-more : {after : List ℕ} {next : ℕ} → i < n → next ≤ end + 65 → length after ≡ length out
      → Written out end (event_line (get_or list (3 * i) 0) (get_or list (3 * i + 1) 0) (get_or list (3 * i + 2) 0)) after next
      → Lining list before n at after next (i + 1)
  lining-more h few room w =
      record { few = omega (arith, g.few); room = room ∙ g.room; gives = went_on (rw (lines_next list n i h) at g.gives) w }

  pub lining-all : n ≤ i → Written before at (event_lines n list) out end
  unfolding event_lines
  lining-all h =
      let none : n - i ≡ 0 = omega arith in
      done (rw none at g.gives)

-- the text of a read: no octets after a refusal, none for length 0, else a space and the octets
module _ (answer : ℕ) (octets : List ℕ) {before after : List ℕ} {at end : ℕ} where
  none_told : octets_read answer octets ≡ [] → Written before at (0x52 ∷ [] ++ spaced answer ++ newline) after end
      → Written before at (read_line answer octets) after end
  none_told e w =
      let front = append-nil (0x52 ∷ [] ++ spaced answer) in
      subst (λ (t : List ℕ). Written before at (0x52 ∷ [] ++ spaced answer ++ t ++ newline) after end) (sym e)
      (subst (λ (t : List ℕ). Written before at (t ++ newline) after end) (sym front) w)

  pub no-octets : (answer ≡ 0 → ⊥) → Written before at (0x52 ∷ [] ++ spaced answer ++ newline) after end
      → Written before at (read_line answer octets) after end
  no-octets n w = none_told (rw (ne_eqb answer 0 n)) w

  pub no_length : length octets ≡ 0 → Written before at (0x52 ∷ [] ++ spaced answer ++ newline) after end
      → Written before at (read_line answer octets) after end
  no_length e w = none_told (rw (eq-eqb (length octets) 0 e) (go (eqb answer 0))) w
    where
      go : (b : Bool) → (if b && false then 0x20 ∷ in_hex octets else []) ≡ []
      go true = refl
      go false = refl

  pub some-octets : answer ≡ 0 → (length octets ≡ 0 → ⊥)
      → Written before at (0x52 ∷ [] ++ spaced answer ++ (0x20 ∷ [] ++ in_hex octets) ++ newline) after end
      → Written before at (read_line answer octets) after end
  some-octets e n w =
      let told : octets_read answer octets ≡ 0x20 ∷ in_hex octets = rw (eq-eqb answer 0 e, ne_eqb (length octets) 0 n) in
      subst (λ (t : List ℕ). Written before at (0x52 ∷ [] ++ spaced answer ++ t ++ newline) after end) (sym told) w

-- where nothing is told the line is a letter and a number
pub untold : (answer : ℕ) → answer_line 0x49 answer ≡ told_line answer []
unfolding flat_map
untold answer = ap (λ (t : List ℕ). t ++ newline) (sym (append-nil (0x49 ∷ [] ++ spaced answer)))
