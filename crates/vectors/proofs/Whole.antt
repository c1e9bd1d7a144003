-- What is kept of a line stands for the line itself, so a script of any length prints what each of its lines is answered. Assumes nothing.
use Rattle.std.specs.Prelude.{if◌then◌else◌}
use mathlib.Core.Path.{◌≡◌, refl, sym, ap, subst, ◌∙◌}
use mathlib.Core.List.{List, [], ◌∷◌, ◌++◌, append_assoc}
use Prim.Native.Nat.{ℕ, ◌+◌, ◌≤◌, ◌<◌}
use native.Mathlib.Numerals.{add-one}
use native.Mathlib.Omega.{arith}
use native.Mathlib.Decide.{dec_lt, ℕ_discrete}
use borrow.Author.Tests.{lt-ltb, le-ltb, eq-eqb, ne_eqb}
use lib.Dec.{eqb}
use lib.ListN.{length, get_or, set, take, length-append, length-set, get_or-append}
use lib.Seq.{take-suc-set, set_out, get_or-take}
use Rattle.vectors.specs.Answers.{line_answer, answer_of}
use Rattle.vectors.specs.Kept.{Kept, one_more, printed, line_printed, came, all_came, printed_by, script_printed}

-- a line is kept whole, or it has more octets than a question and only their number and the first one count
pub data Holds (xs line : List ℕ) : ℕ → Type 0 where
  whole : length xs ≤ 2050 → take (length xs) line ≡ xs → Holds xs line (length xs)
  over : 2050 < length xs → get_or line 0 0 ≡ get_or xs 0 0 → Holds xs line 2051

begins : (line : List ℕ) → Holds [] line 0
begins line = Holds.whole (omega arith) refl

first : (xs line : List ℕ) → take (length xs) line ≡ xs → 0 < length xs → get_or line 0 0 ≡ get_or xs 0 0
first xs line e h = sym (get_or-take (length xs) line 0 0 h) ∙ ap (λ (ys : List ℕ). get_or ys 0 0) e

longer : (xs : List ℕ) (x : ℕ) → length (xs ++ x ∷ []) ≡ length xs + 1
longer xs x = length-append xs (x ∷ [])

more : (xs line : List ℕ) (x : ℕ) {held : ℕ} → length line ≡ 2050 → Holds xs line held → Holds (xs ++ x ∷ []) (set line held x) (one_more held)
more xs line x l (Holds.whole few e) = go (dec_lt (length xs) 2050)
  where
    go : Dec (length xs < 2050) → Holds (xs ++ x ∷ []) (set line (length xs) x) (one_more (length xs))
    go (yes h) =
        let kept : take (length (xs ++ x ∷ [])) (set line (length xs) x) ≡ xs ++ x ∷ [] =
        rw (longer xs x, add-one (length xs), take-suc-set line (length xs) x (omega arith), e) in
        rw (lt-ltb _ _ h, ← longer xs x) (Holds.whole (omega (arith, longer xs x)) kept)
    go (no h) =
        let all : 2050 ≤ length xs = omega arith in
        let begun : get_or line 0 0 ≡ get_or (xs ++ x ∷ []) 0 0 = first xs line e (omega arith) ∙ sym (get_or-append xs (x ∷ []) 0 0 (omega arith)) in
        rw (le-ltb _ _ all, set_out line (length xs) x (omega arith)) (Holds.over (omega (arith, longer xs x)) begun)
more xs line x l (Holds.over many e) =
    let begun : get_or line 0 0 ≡ get_or (xs ++ x ∷ []) 0 0 = e ∙ sym (get_or-append xs (x ∷ []) 0 0 (omega arith)) in
    rw (set_out line 2051 x (omega arith)) (Holds.over (omega (arith, longer xs x)) begun)

ends : (xs line : List ℕ) {held : ℕ} → length line ≡ 2050 → Holds xs line held → printed line held ≡ line_printed xs
unfolding printed line_printed answer_of line_answer
ends [] line l (Holds.whole few e) = refl
ends (x ∷ xs) line l (Holds.whole few e) =
    rw (first (x ∷ xs) line e (omega arith), l, le-ltb 2050 (length (x ∷ xs)) few, e)
ends xs line l (Holds.over many e) =
    let some : length xs ≡ 0 → ⊥ = λ z. omega (arith, many, z) in
    rw (e, l, lt-ltb 2050 (length xs) many, ne_eqb (length xs) 0 some)

-- the octets of a script, one by one, behind those of a line that has begun
pub script : (line : List ℕ) (xs : List ℕ) (k : Kept) → length k.line ≡ 2050 → Holds line k.line k.held
    → printed_by xs k ≡ script_printed line xs
unfolding printed_by script_printed came
script line [] k l h = refl
script line (x ∷ xs) k l h = go (ℕ_discrete x 0x0A) (script [] xs) (script (line ++ x ∷ []) xs)
  where
    go : Dec (x ≡ 0x0A)
        → ((j : Kept) → length j.line ≡ 2050 → Holds [] j.line j.held → printed_by xs j ≡ script_printed [] xs)
        → ((j : Kept) → length j.line ≡ 2050 → Holds (line ++ x ∷ []) j.line j.held → printed_by xs j ≡ script_printed (line ++ x ∷ []) xs)
        → printed_by (x ∷ xs) k ≡ script_printed line (x ∷ xs)
    go (yes e) anew on = rw (eq-eqb x 0x0A e, ends line k.line l h) (ap (λ (t : List ℕ). line_printed line ++ t) (anew _ l (begins k.line)))
    go (no n) anew on = rw (ne_eqb x 0x0A n) (on _ (length-set k.line k.held x ∙ l) (more line k.line x l h))

-- a whole script, from nothing held
pub whole-script : (xs : List ℕ) (k : Kept) → length k.line ≡ 2050 → k.held ≡ 0 → printed_by xs k ≡ script_printed [] xs
whole-script xs k l z = script [] xs k l (subst (Holds [] k.line) (sym z) (begins k.line))

-- in whatever pieces the script comes
pub in_pieces : (xs ys : List ℕ) (k : Kept) → printed_by (xs ++ ys) k ≡ printed_by xs k ++ printed_by ys (all_came xs k)
unfolding printed_by all_came
in_pieces [] ys k = refl
in_pieces (x ∷ xs) ys k =
    let here : List ℕ = if eqb x 0x0A then printed k.line k.held else [] in
    ap (λ (t : List ℕ). here ++ t) (in_pieces xs ys (came x k)) ∙ sym (append_assoc here _ _)
