-- When a hunter is sound: decided exactly, and the hunters that hold octets which wait. Assumes nothing.
use mathlib.Core.Path.{◌≡◌, refl, sym, ap, ap₂, ◌∙◌}
use mathlib.Core.Bool.{Bool, true, false, true≢false}
use mathlib.Core.List.{List, ◌++◌}
use mathlib.Core.Logic.{◌⊎◌, inl, inr, ⊎_elim}
use Prim.Native.Nat.{ℕ, ◌-◌, ◌≤◌, ◌<◌}
use native.Mathlib.Omega.{arith}
use borrow.Author.Tests.{leb-true, leb-false}
use lib.Dec.{leb}
use lib.ListN.{length, drop, replicate, length-append, length-drop, length-replicate, take-append-drop}
use lib.Seq.{length-take-le, drop_at, take-take, take-append_seam}
use Rattle.octets.specs.Choice.{Decides}
use Rattle.octets.specs.Buffer.{all_zero}
use Rattle.octets.proofs.Decide.{decides-same, decides-self, decides_ltb, decides-leb, decides_or, ◌and◌}
use Rattle.octets.proofs.Zero.{blank-zeros, all_zero-replicate}
use Rattle.stream.specs.declared.Hunter.{Hunter}
use Rattle.stream.specs.Stream.{is_marker, wrong_bits, here}
use Rattle.stream.specs.Stream.Here.{Waits}
use Rattle.stream.specs.Hunter.{held, holding, no_hunter, Sound, is_sound}
use Rattle.stream.proofs.Cutting.{waits-is, is-few, is-part}

-- ---- a hunter that holds what waits

module _ (k : ℕ) (w : List ℕ) where
  pub held-holding : held (holding k w) ≡ w
  unfolding holding
  held-holding = take-append_seam w (replicate (1024 - length w) 0)

  pub waiting-holding : (holding k w).waiting ≡ length w
  unfolding holding
  waiting-holding = refl

  pub octets-holding : (holding k w).octets ≡ w ++ replicate (1024 - length w) 0
  unfolding holding
  octets-holding = refl

  pub k-holding : (holding k w).k ≡ k
  unfolding holding
  k-holding = refl

  pub sound-holding : k ≤ 3 → here k w ≡ Waits → Sound (holding k w)
  sound-holding l e =
      record {
        limit = rw k-holding l;
        form = ap₂ holding (sym k-holding) (sym held-holding);
        still = rw (k-holding, held-holding) e;
      }

-- ---- soundness, decided

module _ (h : Hunter) where
  pub sound-waiting : Sound h → length (held h) ≡ h.waiting
  sound-waiting s = sym (ap (λ (x : Hunter). x.waiting) s.form ∙ waiting-holding h.k (held h))

  pub sound-few : Sound h → h.waiting < 1024
  sound-few s = omega (arith, (waits-is h.k (held h) s.still).0, sound-waiting s)

  pub sound-octets : Sound h → h.octets ≡ held h ++ replicate (1024 - length (held h)) 0
  sound-octets s = ap (λ (x : Hunter). x.octets) s.form ∙ octets-holding h.k (held h)

  module _ (size : length h.octets ≡ 1024) where
    held-length : h.waiting ≤ 1024 → length (held h) ≡ h.waiting
    held-length l = length-take-le h.waiting h.octets (omega arith)

    held-marker : 4 ≤ h.waiting → is_marker h.k (held h) ≡ is_marker h.k h.octets
    unfolding is_marker wrong_bits
    held-marker l = rw (take-take 4 h.waiting h.octets l)

    pub is-sound : h.begun ≡ true → h.k ≤ 3 → h.waiting < 1024 → (h.waiting < 4) ⊎ (is_marker h.k h.octets ≡ true)
        → all_zero (drop h.waiting h.octets) ≡ true → Sound h
    unfolding holding
    is-sound b k w m z =
        let n : length (held h) ≡ h.waiting = held-length (omega arith) in
        let left : length (drop h.waiting h.octets) ≡ 1024 - length (held h) = omega (arith, length-drop h.waiting h.octets) in
        let os : h.octets ≡ held h ++ replicate (1024 - length (held h)) 0 =
        sym (take-append-drop h.waiting h.octets)
        ∙ ap (λ (r : List ℕ). held h ++ r) (blank-zeros (drop h.waiting h.octets) z ∙ ap (λ (j : ℕ). replicate j 0) left) in
        record {
          limit = k;
          form = λ i. record { begun = b i; k = h.k; waiting = sym n i; octets = os i };
          still = ⊎_elim (λ f. is-few h.k (held h) (omega arith)) (λ t. by_size (leb 4 h.waiting) refl t) m;
        }
      where
        by_size : (c : Bool) → leb 4 h.waiting ≡ c → is_marker h.k h.octets ≡ true → here h.k (held h) ≡ Waits
        by_size true e t =
            let f = leb-true 4 h.waiting e in
            let n : length (held h) ≡ h.waiting = held-length (omega arith) in
            is-part h.k (held h) (omega arith) (held-marker f ∙ t) (omega arith)
        by_size false e t =
            let f = leb-false 4 h.waiting e in
            let n : length (held h) ≡ h.waiting = held-length (omega arith) in
            is-few h.k (held h) (omega arith)

    pub sound-is : Sound h
        → ((((h.begun ≡ true) × (h.k ≤ 3)) × (h.waiting < 1024)) × ((h.waiting < 4) ⊎ (is_marker h.k h.octets ≡ true)))
        × (all_zero (drop h.waiting h.octets) ≡ true)
    unfolding holding
    sound-is s =
        let n = sound-waiting s in
        let (l, m) = waits-is h.k (held h) s.still in
        let z : drop h.waiting h.octets ≡ replicate (1024 - length (held h)) 0 =
        ap (drop h.waiting) (sound-octets s) ∙ drop_at (held h) (replicate (1024 - length (held h)) 0) h.waiting n in (
          (((ap (λ (x : Hunter). x.begun) s.form, s.limit), omega arith), ⊎_elim (λ f. inl (omega arith)) (λ (f, t). inr (sym (held-marker (omega arith)) ∙ t)) m),
          ap all_zero z ∙ all_zero-replicate (1024 - length (held h)),
        )

    pub decides-sound : Decides (Sound h) (is_sound h)
    unfolding is_sound
    decides-sound =
        decides-same (λ ((((b, k), w), m), z). is-sound b k w m z) sound-is
        (decides-self h.begun and decides-leb h.k 3 and decides_ltb h.waiting 1024
        and decides_or (decides_ltb h.waiting 4) (decides-self (is_marker h.k h.octets))
        and decides-self (all_zero (drop h.waiting h.octets)))

  pub sound-size : Sound h → length h.octets ≡ 1024
  sound-size s =
      ap length (sound-octets s) ∙ length-append (held h) (replicate (1024 - length (held h)) 0)
      ∙ omega (arith, length-replicate {A = ℕ} (1024 - length (held h)) 0, (waits-is h.k (held h) s.still).0)

-- the hunter of a refused beginning is not sound
pub zero-unsound : Sound no_hunter → ⊥
unfolding holding
zero-unsound s = true≢false (sym (ap (λ (x : Hunter). x.begun) s.form))
