-- A portion that is fed call by call: what was found so far, with what the rest is still to give, is what the portion gives. Assumes nothing.
use mathlib.Core.Path.{◌≡◌, refl, sym, ap, ◌∙◌}
use mathlib.Core.Bool.{Bool, true, false}
use mathlib.Core.List.{List, [], ◌∷◌, ◌++◌, append-nil}
use Prim.Native.Nat.{ℕ, zero, suc, ◌+◌, ◌-◌, ◌≤◌, ◌<◌}
use native.Mathlib.Omega.{arith}
use lib.ListN.{length, take, drop, length-append, length-drop}
use lib.Seq.{drop-drop, append_snoc}
use Rattle.octets.proofs.Lists.{whole-rest}
use Rattle.stream.specs.declared.Hunter.{Hunter}
use Rattle.stream.specs.declared.Hunted.{Hunted}
use Rattle.stream.specs.Hunter.{HuntOutcome, gave_hunt, hunted}
use Rattle.stream.specs.Feed.{no_frame, with_frame, after_frames, feed_in, feed}
use Rattle.stream.proofs.Feeding.{feed-more, feed-done}
use Rattle.stream.proofs.Promised.{found-takes}

-- the portion xs was handed in up to place `at`, and so many frames were found; the fuel n is enough for the rest
pub record Going (h : Hunter) (xs before now : List ℕ) (t : Hunter) (at frames : ℕ) : Type 0 where
  pub found : List (List ℕ)
  pub n : ℕ
  pub within : at ≤ length xs
  pub enough : length xs < at + n
  pub counted : frames ≡ length found
  pub few : frames ≤ at
  pub gives : feed h xs before ≡ after_frames found (feed_in n t (drop at xs) now)

pub goes : (h : Hunter) (xs before : List ℕ) → Going h xs before before h 0 0
unfolding feed
goes h xs before =
    record { found = []; n = suc (length xs); within = omega arith; enough = omega arith; counted = refl; few = omega arith; gives = refl }

-- a call with the rest of the portion
module _ {h : Hunter} {xs before now : List ℕ} {t : Hunter} {at frames : ℕ} (g : Going h xs before now t at frames) (r : Hunted) (f : List ℕ)
    (called : gave_hunt r f ≡ hunted t (take (length xs - at) (drop at xs)) now) where
  gave : gave_hunt r f ≡ hunted t (drop at xs) now
  gave = called ∙ ap (λ (ys : List ℕ). hunted t ys now) (whole-rest xs at)

  found-is : {b : Bool} → r.found ≡ b → (hunted t (drop at xs) now).found ≡ b
  found-is q = sym (ap (λ (o : HuntOutcome). o.found) gave) ∙ q

  -- no frame: all of the portion was fed
  pub ends : r.found ≡ false → feed h xs before ≡ record { frames = g.found; hunter = r.hunter; buffer = f }
  ends q = by g.n g.enough g.gives
    where
      by : (n : ℕ) → length xs < at + n → feed h xs before ≡ after_frames g.found (feed_in n t (drop at xs) now)
          → feed h xs before ≡ record { frames = g.found; hunter = r.hunter; buffer = f }
      by zero l p = absurd (omega (arith, g.within))
      by (suc n) l p =
          p
          ∙ ap (after_frames g.found) (feed-done n t (drop at xs) now (found-is q) ∙ ap no_frame (sym gave))
          ∙ ap (λ (fs : List (List ℕ)). record { frames = fs; hunter = r.hunter; buffer = f }) (append-nil g.found)

  module _ (size : length t.octets ≡ 1024) (q : r.found ≡ true) where
    -- a frame: some of the rest was taken
    pub moves : (0 < r.taken) × (at + r.taken ≤ length xs)
    moves =
        let m = found-takes t (drop at xs) now size (found-is q) in
        let s : r.taken ≡ (hunted t (drop at xs) now).taken = ap (λ (o : HuntOutcome). o.taken) gave in
        (omega arith, omega (arith, g.within, length-drop at xs))

    pub goes_on : (to : ℕ) → to ≡ at + r.taken → Going h xs before f r.hunter to (frames + 1)
    goes_on to e = rw e (by g.n g.enough g.gives)
      where
        by : (n : ℕ) → length xs < at + n → feed h xs before ≡ after_frames g.found (feed_in n t (drop at xs) now)
            → Going h xs before f r.hunter (at + r.taken) (frames + 1)
        by zero l p = absurd (omega (arith, g.within))
        by (suc n) l p =
            record {
              found = g.found ++ (f ∷ []);
              n = n;
              within = moves.1;
              enough = omega (arith, moves);
              counted = omega (arith, g.counted, length-append g.found (f ∷ []));
              few = omega (arith, moves, g.few);
              gives =
                  p
                  ∙ ap (after_frames g.found)
                  (feed-more n t (drop at xs) now (found-is q)
                  ∙ ap (λ (o : HuntOutcome). with_frame o.buffer (feed_in n o.hunter (drop o.taken (drop at xs)) o.buffer)) (sym gave))
                  ∙ rw (drop-drop r.taken at xs, append_snoc);
            }
