-- `octets_held` meets its contract, by its test and the contracts of `all_zero`, `look_at` and `size`. Assumes nothing.
use mathlib.Core.Path.{◌≡◌, refl, sym, ap, ◌∙◌}
use mathlib.Core.Bool.{Bool, true, false}
use mathlib.Core.List.{List}
use Prim.Native.Nat.{ℕ, ◌-◌, ◌≤◌, ◌<◌}
use native.Mathlib.Omega.{arith}
use borrow.Author.Rules.{rules}
use borrow.Author.Tests.{lt-ltb, le-ltb}
use lib.Dec.{ltb}
use lib.ListN.{length, drop}
use Rattle.octets.specs.Buffer.{all_zero}
use Rattle.octets.specs.Number.{part}
use Rattle.octets.proofs.Lists.{whole-rest}
use Rattle.octets.proofs.Tests.{denied, granted}
use Rattle.packet.specs.Header.{look_of, size_of}
use Rattle.packet.specs.declared.Packet.{Packet}
use Rattle.packet.specs.declared.Look.{Look}
use Rattle.packet.specs.declared.Look.TheVariants.{Short, Bad, Good}
use Rattle.state.specs.Decision.{octets_held, longer}
use Rattle.desks.proofs.octets_held.Goals as goal

module _ (h : ℕ) (d : List ℕ) where
  tail : all_zero (part h (length d - h) d) ≡ all_zero (drop h d)
  tail = ap all_zero (whole-rest d h)

  spoilt : all_zero (part h (length d - h) d) ≡ false → octets_held h d ≡ false
  unfolding octets_held
  spoilt e = rw (← tail, e)

  module _ (blank : all_zero (part h (length d - h) d) ≡ true) where
    few : h < 6 → octets_held h d ≡ true
    unfolding octets_held
    few l = rw (← tail, blank, lt-ltb _ _ l)

    header : {l : Look} → look_of d ≡ l → 6 ≤ h → octets_held h d ≡ longer h l
    unfolding octets_held
    header e g = rw (← tail, blank, le-ltb _ _ g, e)

    sized : {p : Packet} {n : ℕ} {r : Bool} → look_of d ≡ Good p → 6 ≤ h → n ≡ size_of p → r ≡ ltb h n → r ≡ octets_held h d
    unfolding longer
    sized e g s t = t ∙ rw s (sym (header e g))

none_longer : (h : ℕ) (l : Look) → ((p : Packet) → l ≡ Good p → ⊥) → longer h l ≡ false
unfolding longer
none_longer h Short other = refl
none_longer h Bad other = refl
none_longer h (Good p) other = absurd (other p refl)

pub returns-then-not-all_zero : goal.returns-then-not-all_zero
returns-then-not-all_zero c = sym (spoilt _ _ (search denied))

pub returns-then-h-lt-HEADER : goal.returns-then-h-lt-HEADER
returns-then-h-lt-HEADER c = sym (few _ _ (search granted) (omega arith))

pub returns-in_default : goal.returns-in_default
returns-in_default c =
    let look = sym c.look_at.ensures in
    sym (header _ _ (search granted) look (omega arith) ∙ none_longer _ _ c.in_default.not-Good)

pub returns : goal.returns
returns c =
    let look = sym c.look_at.ensures in
    sized _ _ (search granted) (look ∙ c.in-Good.is) (omega arith) c.size.ensures (search rules)
