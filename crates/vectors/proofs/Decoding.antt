-- The octets of a run of digits, taken two digits at a time. Assumes nothing.
use Rattle.std.specs.Prelude.{Option, Some, None, if◌then◌else◌}
use mathlib.Core.Path.{◌≡◌, refl, sym, ap, ◌∙◌}
use mathlib.Core.Bool.{Bool, true, false, ◌&&◌}
use mathlib.Core.List.{List, [], ◌∷◌, ◌++◌, append-nil, append_assoc}
use Prim.Native.Nat.{ℕ, suc, ◌+◌, ◌*◌, ◌%◌, ◌≤◌, ◌<◌}
use native.Mathlib.Numerals.{add-one}
use native.Mathlib.Omega.{arith}
use borrow.Author.Tests.{le-leb, lt-leb}
use lib.ListN.{length, take, drop, get_or, set, drop_of_length-le}
use lib.Seq.{drop-cons, take-suc-set}
use Rattle.vectors.specs.Digits.{value_of, is_digit, in_front, octets_of}

pub in-front-twice : (xs ys : List ℕ) (o : Option (List ℕ)) → in_front xs (in_front ys o) ≡ in_front (xs ++ ys) o
unfolding in_front
in-front-twice xs ys None = refl
in-front-twice xs ys (Some zs) = ap Some (sym (append_assoc xs ys zs))

-- of an odd number of digits one is missing
pub odd-none : (ds : List ℕ) → length ds % 2 ≡ 1 → octets_of ds ≡ None
unfolding octets_of in_front
odd-none [] h = absurd (omega (arith, h))
odd-none (high ∷ []) h = refl
odd-none (high ∷ low ∷ ds) h = go (is_digit high && is_digit low) (odd-none ds (omega arith))
  where
    go : (b : Bool) → octets_of ds ≡ None
        → (if b then in_front ((value_of high * 16 + value_of low) ∷ []) (octets_of ds) else None) ≡ None
    go true e = rw e
    go false e = refl

pub in-front-of-all : (o : Option (List ℕ)) → o ≡ in_front [] o
unfolding in_front
in-front-of-all None = refl
in-front-of-all (Some xs) = refl

-- the octets so far stand in front of those of the digits that are left
pub record Decoding (ds asked : List ℕ) (i : ℕ) : Type 0 where
  pub gives : octets_of ds ≡ in_front (take i asked) (octets_of (drop (2 * i) ds))

pub begin : (ds asked : List ℕ) → Decoding ds asked 0
begin ds asked = record { gives = in-front-of-all (octets_of ds) }

module _ {ds asked : List ℕ} {i : ℕ} (d : Decoding ds asked i) where
  pub end : (n : ℕ) → n ≡ i → length ds ≤ 2 * i → Some (take n asked) ≡ octets_of ds
  unfolding octets_of in_front
  end n e h =
      rw e (sym (d.gives ∙ ap (λ (xs : List ℕ). in_front (take i asked) (octets_of xs)) (drop_of_length-le ds h) ∙ ap Some (append-nil (take i asked))))

  -- a turn: the next two digits, whatever they are
  module _ (h : 2 * i + 1 < length ds) where
    abbrev pub high : ℕ
    high = get_or ds (2 * i) 0

    abbrev pub low : ℕ
    low = get_or ds (2 * i + 1) 0

    two : drop (2 * i) ds ≡ high ∷ low ∷ drop (2 * (i + 1)) ds
    two =
        let k : 2 * (i + 1) ≡ suc (2 * i + 1) = omega arith in
        drop-cons ds (2 * i) 0 (omega arith) ∙ rw (← add-one (2 * i), drop-cons ds (2 * i + 1) 0 h, k)

    next : octets_of (drop (2 * i) ds)
        ≡ (if is_digit high && is_digit low then in_front ((value_of high * 16 + value_of low) ∷ []) (octets_of (drop (2 * (i + 1)) ds)) else None)
    unfolding octets_of
    next = ap octets_of two

    pub high-none : 15 < value_of high → None ≡ octets_of ds
    unfolding in_front
    high-none p = sym (d.gives ∙ rw (next, lt-leb _ _ p))

    pub low-none : value_of high ≤ 15 → 15 < value_of low → None ≡ octets_of ds
    unfolding in_front
    low-none q p = sym (d.gives ∙ rw (next, le-leb _ _ q, lt-leb _ _ p))

    pub more : (v : ℕ) → v ≡ value_of high * 16 + value_of low → i < length asked → value_of high ≤ 15 → value_of low ≤ 15
        → Decoding ds (set asked i v) (i + 1)
    more v e l q p =
        record { gives = d.gives ∙ rw (next, le-leb _ _ q, le-leb _ _ p, in-front-twice, ← e, ← take-suc-set asked i v l, ← add-one i) }
