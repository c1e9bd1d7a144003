-- Pieces that follow one another are one piece. Assumes nothing.
use mathlib.Core.Path.{◌≡◌, refl, sym, ap, ◌∙◌}
use mathlib.Core.List.{List, [], ◌∷◌, ◌++◌}
use Prim.Native.Nat.{ℕ, suc, ◌+◌, ◌*◌, ◌/◌, ◌%◌, ◌≤◌, ◌<◌}
use native.Mathlib.Nat.{add-zero, add_assoc}
use native.Mathlib.Numerals.{add-one}
use native.Mathlib.Omega.{arith}
use lib.ListN.{length, set, get_or, take, drop, length-append, length-set, drop_of_length-le}
use lib.Seq.{drop-cons}
use Rattle.io.specs.Digits.{last_digits, hex_digit_ascii}
use Rattle.octets.specs.Buffer.{put}
use Rattle.octets.proofs.Put.{put-put, put-nil, part-put-in}
use Rattle.text.specs.Pieces.{Written, in_hex}

pub behind : {before middle after p q : List ℕ} {at between end : ℕ} → Written before at p middle between
    → Written middle between q after end → Written before at (p ++ q) after end
behind {before = before} {p = p} {q = q} {at = at} u w =
    record { holds = w.holds ∙ rw (u.holds, u.ends) (put-put p before at q); ends = w.ends ∙ rw (u.ends, length-append) (add_assoc _ _ _) }

-- nothing put anywhere
pub nothing : (before : List ℕ) (at : ℕ) → Written before at [] before at
nothing before at = record { holds = sym (put-nil before at); ends = sym (add-zero at) }

-- what was put at the start of a buffer with room for it stands there
pub at_front : {before piece after : List ℕ} {end : ℕ} → Written before 0 piece after end → end ≤ length before → take end after ≡ piece
at_front {before} {piece} {after} {end} w h =
    let size : end ≡ length piece = omega (arith, w.ends) in
    ap (λ (k : ℕ). take k after) size ∙ ap (λ (xs : List ℕ). take (length piece) xs) w.holds ∙ part-put-in piece before 0 (omega (arith, size))

-- an octet alone
pub octet : (before : List ℕ) (at x : ℕ) → Written before at (x ∷ []) (set before at x) (at + 1)
unfolding put
octet before at x = record { holds = refl; ends = refl }

-- a loop that writes: what it wrote so far, with what it has still to write behind, is the whole piece
pub record Writing (before : List ℕ) (at : ℕ) (whole now : List ℕ) (end : ℕ) (rest : List ℕ) : Type 0 where
  pub holds : put now end rest ≡ put before at whole
  pub ends : end + length rest ≡ at + length whole

pub begun : (before whole : List ℕ) (at : ℕ) → Writing before at whole before at whole
begun before whole at = record { holds = refl; ends = refl }

pub went_on : {before whole middle after p q : List ℕ} {at between end : ℕ} → Writing before at whole middle between (p ++ q)
    → Written middle between p after end → Writing before at whole after end q
went_on {p = p} {q = q} g w =
    record { holds = rw (w.holds, w.ends) (put-put p _ _ q ∙ g.holds); ends = omega (arith, w.ends, g.ends, length-append p q) }

pub done : {before whole after : List ℕ} {at end : ℕ} → Writing before at whole after end [] → Written before at whole after end
done {after = after} {end = end} g = record { holds = sym (put-nil after end) ∙ g.holds; ends = sym (add-zero end) ∙ g.ends }

-- the digits of the first i octets were written
pub record Spelling (s before : List ℕ) (at : ℕ) (out : List ℕ) (end i : ℕ) : Type 0 where
  pub place : end ≡ at + 2 * i
  pub room : length out ≡ length before
  pub gives : Writing before at (in_hex s) out end (in_hex (drop i s))

pub spelling-none : (s before : List ℕ) (at : ℕ) → Spelling s before at before at 0
spelling-none s before at = record { place = omega arith; room = refl; gives = begun before (in_hex s) at }

module _ {s before out : List ℕ} {at end i : ℕ} (g : Spelling s before at out end i) where
  pub spelling-more : (high low : ℕ) → i < length s → get_or s i 0 < 256 → high ≡ hex_digit_ascii (get_or s i 0 / 16) → low ≡ hex_digit_ascii (get_or s i 0 % 16)
      → Spelling s before at (set (set out end high) (end + 1) low) (end + 2) (i + 1)
  unfolding in_hex put
  spelling-more high low h x e f =
      let digit : get_or s i 0 / 16 % 16 ≡ get_or s i 0 / 16 = omega arith in
      let two : last_digits 16 2 (get_or s i 0) ≡ high ∷ low ∷ [] = rw (digit, ← e, ← f) in
      let octets : in_hex (drop i s) ≡ (high ∷ low ∷ []) ++ in_hex (drop (i + 1) s) = ap in_hex (drop-cons s i 0 h) ∙ rw (add-one i) (ap (λ (ds : List ℕ). ds ++ in_hex (drop (suc i) s)) two) in
      let here : Written out end (high ∷ low ∷ []) (set (set out end high) (end + 1) low) (end + 2) = record { holds = rw (add-one end); ends = refl } in
      record {
        place = omega (arith, g.place);
        room = simp length-set g.room;
        gives = went_on (rw octets at g.gives) here;
      }

  pub spelling-all : length s ≤ i → Written before at (in_hex s) out end
  unfolding in_hex
  spelling-all h = done (rw (drop_of_length-le s h) at g.gives)
