-- The sequence repeats after 255 bits, so also after 255 octets, and one period of it is what the rule makes. Assumes nothing.
use mathlib.Core.Path.{◌≡◌, refl, sym, ap, ◌∙◌}
use mathlib.Core.List.{List, [], ◌∷◌}
use Prim.Native.Nat.{ℕ, zero, suc, ◌+◌, ◌*◌, ◌/◌, ◌%◌, ◌<◌}
use native.Mathlib.Nat.{add-zero, zero-add, add_assoc, le_of_suc-le-suc, not-suc-le-zero}
use native.Mathlib.Numerals.{add-one, towards_suc}
use native.Mathlib.Omega.{arith}
use lib.ListN.{get_or}
use Rattle.noise.specs.Noise.{s, octet_from, noise_at, noise_from, period}

-- "bit n+8 is the exclusive or of bits n+7, n+5, n+3 and n"
pub rule : (n : ℕ) → s (n + 8) ≡ (s (n + 7) + s (n + 5) + s (n + 3) + s n) % 2
unfolding s
rule n = simp towards_suc

pub bit_below : (n : ℕ) → s n < 2
unfolding s
bit_below zero = omega arith
bit_below (suc zero) = omega arith
bit_below (suc (suc zero)) = omega arith
bit_below (suc (suc (suc zero))) = omega arith
bit_below (suc (suc (suc (suc zero)))) = omega arith
bit_below (suc (suc (suc (suc (suc zero))))) = omega arith
bit_below (suc (suc (suc (suc (suc (suc zero)))))) = omega arith
bit_below (suc (suc (suc (suc (suc (suc (suc zero))))))) = omega arith
bit_below (suc (suc (suc (suc (suc (suc (suc (suc n)))))))) = omega arith

-- Eight bits in a row are one number, the register, so that the rule is a step from number to number, and what is true of eight
-- bits at once is one equation. One bit later the first bit has left at the top, and the rule's bit has entered below.
unfoldable pub next : ℕ → ℕ
next r = (r * 2 + (r / 128 + r / 16 + r / 4 + r) % 2) % 256

module _ {a b c d e f g h : ℕ} (ha : a < 2) (hb : b < 2) (hc : c < 2) (hd : d < 2) (he : e < 2) (hf : f < 2) (hg : g < 2) (hh : h < 2) where
  register : ℕ
  register = a * 128 + b * 64 + c * 32 + d * 16 + e * 8 + f * 4 + g * 2 + h

  first_bit : register / 128 ≡ a
  unfolding register
  first_bit = omega arith

  four-bits : register / 16 ≡ a * 8 + b * 4 + c * 2 + d
  unfolding register
  four-bits = omega arith

  six-bits : register / 4 ≡ a * 32 + b * 16 + c * 8 + d * 4 + e * 2 + f
  unfolding register
  six-bits = omega arith

  enters : (register / 128 + register / 16 + register / 4 + register) % 2 ≡ (h + f + d + a) % 2
  unfolding register
  enters = rw (first_bit, four-bits, six-bits) (omega arith)

  moves : register * 2 ≡ a * 256 + (b * 128 + c * 64 + d * 32 + e * 16 + f * 8 + g * 4 + h * 2)
  unfolding register
  moves = omega arith

  one_later : next register ≡ b * 128 + c * 64 + d * 32 + e * 16 + f * 8 + g * 4 + h * 2 + (h + f + d + a) % 2
  unfolding next
  one_later = rw (enters, moves) (omega arith)

module _ (n : ℕ) where
  pub octet-below : octet_from n < 256
  unfolding octet_from
  octet-below =
      omega (
        arith,
        bit_below n,
        bit_below (n + 1),
        bit_below (n + 2),
        bit_below (n + 3),
        bit_below (n + 4),
        bit_below (n + 5),
        bit_below (n + 6),
        bit_below (n + 7),
      )

  octet-first : octet_from n / 128 ≡ s n
  unfolding octet_from register
  octet-first =
      first_bit (bit_below n) (bit_below (n + 1)) (bit_below (n + 2)) (bit_below (n + 3)) (bit_below (n + 4)) (bit_below (n + 5))
      (bit_below (n + 6)) (bit_below (n + 7))

  octet-next : octet_from (n + 1) ≡ next (octet_from n)
  unfolding octet_from register
  octet-next =
      let shift : (j : ℕ) → s (n + 1 + j) ≡ s (n + (1 + j)) = λ j. ap s (add_assoc n 1 j) in
      rw (shift 1, shift 2, shift 3, shift 4, shift 5, shift 6, shift 7, rule n)
      (sym
      (one_later (bit_below n) (bit_below (n + 1)) (bit_below (n + 2)) (bit_below (n + 3)) (bit_below (n + 4)) (bit_below (n + 5))
      (bit_below (n + 6)) (bit_below (n + 7))))

-- k bits later
unfoldable pub later : ℕ → ℕ → ℕ
later zero r = r
later (suc k) r = later k (next r)

pub octet-later : (k n : ℕ) → octet_from (n + k) ≡ later k (octet_from n)
unfolding later
octet-later zero n = ap octet_from (add-zero n)
octet-later (suc k) n = ap octet_from (omega arith) ∙ octet-later k (n + 1) ∙ ap (later k) (octet-next n)

-- the register of the first eight bits comes back: 255 computed steps
comes_back : octet_from (0 + 255) ≡ octet_from 0
unfolding later next octet_from s
comes_back = octet-later 255 0

octet-repeats : (n : ℕ) → octet_from (n + 255) ≡ octet_from n
octet-repeats zero = comes_back
octet-repeats (suc n) =
    ap octet_from (omega arith)
    ∙ octet-next (n + 255)
    ∙ ap next (octet-repeats n)
    ∙ sym (octet-next n)
    ∙ ap octet_from (add-one n)

-- "It repeats after 255 bits,
pub bit-repeats : (n : ℕ) → s (n + 255) ≡ s n
bit-repeats n = sym (octet-first (n + 255)) ∙ ap (λ (r : ℕ). r / 128) (octet-repeats n) ∙ octet-first n

octet-periods : (m n : ℕ) → octet_from (n + m * 255) ≡ octet_from n
octet-periods zero n = ap octet_from (omega arith)
octet-periods (suc m) n = ap octet_from (omega arith) ∙ octet-repeats (n + m * 255) ∙ octet-periods m n

-- so also after 255 octets"
pub repeats : (i : ℕ) → noise_at (i + 255) ≡ noise_at i
unfolding noise_at
repeats i = ap octet_from (omega arith) ∙ octet-periods 8 (8 * i)

pub noise-mod : (i : ℕ) → noise_at (i % 255) ≡ noise_at i
unfolding noise_at
noise-mod i = sym (ap octet_from (omega arith) ∙ octet-periods (i / 255 * 8) (8 * (i % 255)))

-- k octets in a row, of which r is the first, made by the rule in one run
unfoldable pub octets : ℕ → ℕ → List ℕ
octets zero r = []
octets (suc k) r = r ∷ octets k (later 8 r)

octets-noise : (k i : ℕ) → octets k (octet_from (8 * i)) ≡ noise_from k i
unfolding octets noise_from noise_at
octets-noise zero i = refl
octets-noise (suc k) i =
    let eight : later 8 (octet_from (8 * i)) ≡ octet_from (8 * suc i) = sym (octet-later 8 (8 * i)) ∙ ap octet_from (omega arith) in
    ap (λ (l : List ℕ). octet_from (8 * i) ∷ l) (ap (octets k) eight ∙ octets-noise k (suc i))

-- One period is what the rule makes of the first octet. `Noise::table` compares the source's table with that run: the one computed test.
pub by-rule : octets 255 0xff ≡ period
unfolding octet_from s period
by-rule = octets-noise 255 0

noise_from-at : (k i j : ℕ) → j < k → get_or (noise_from k i) j 0 ≡ noise_at (i + j)
unfolding noise_from
noise_from-at zero i j h = absurd (not-suc-le-zero h)
noise_from-at (suc k) i zero h = sym (ap noise_at (add-zero i))
noise_from-at (suc k) i (suc j) h = noise_from-at k (suc i) j (le_of_suc-le-suc h) ∙ ap noise_at (omega arith)

-- and this carries it to each entry
pub follows : (i : ℕ) → i < 255 → get_or period i 0 ≡ noise_at i
unfolding period
follows i h = noise_from-at 255 0 i h ∙ ap noise_at (zero-add i)
