-- A slot that a call names: each way to what is known of it, and what that tells. Assumes nothing.
use Rattle.std.specs.Prelude.{Result, Ok, Err}
use mathlib.Core.Path.{◌≡◌, sym, subst, ◌∙◌}
use mathlib.Core.Bool.{true, false, not, ◌&&◌}
use Prim.Native.Nat.{ℕ, ◌≤◌, ◌<◌}
use borrow.Author.Tests.{not-false, lt-ltb, le-ltb, ltb-true, leb-true}
use lib.Dec.{leb, ltb, eqb}
use Rattle.octets.proofs.Lists.{if-cases}
use Rattle.octets.proofs.Tests.{and_left, and_right}
use Rattle.refusals.specs.declared.Refusal.{Refusal}
use Rattle.refusals.specs.Refusals.{refuse}
use Rattle.state.specs.declared.Slot.{Slot}
use Rattle.state.specs.declared.Station.{Station}
use Rattle.state.specs.Slots.{slot_at, held, complete, need_of, named}
use Rattle.state.specs.Decision.{good_channels, set_up_sound, is_sound}
use Rattle.station.specs.Files.{is_held, asked}
use Rattle.station.specs.declared.Held.{Held}
use Rattle.station.specs.declared.Held.TheVariants.{Complete, Incomplete}

module _ (s : Station) (k : ℕ) where
  pub asked-unsound : is_sound s ≡ false → refuse 2 ≡ asked s k
  unfolding asked
  asked-unsound e = rw e

  module _ (sound : is_sound s ≡ true) where
    pub asked-high : 32 ≤ k → refuse 11 ≡ asked s k
    unfolding asked
    asked-high h = rw (sound, le-ltb k 32 h)

    module _ (low : k < 32) where
      pub asked-free : held (slot_at s k) ≡ false → refuse 11 ≡ asked s k
      unfolding asked
      asked-free e = rw (sound, lt-ltb k 32 low, e)

      module _ (here : held (slot_at s k) ≡ true) where
        pub asked-complete : complete (slot_at s k) ≡ true → Ok (Complete k) ≡ asked s k
        unfolding asked
        asked-complete e = rw (sound, lt-ltb k 32 low, here, e)

        pub asked-incomplete : complete (slot_at s k) ≡ false → Ok (Incomplete k) ≡ asked s k
        unfolding asked
        asked-incomplete e = rw (sound, lt-ltb k 32 low, here, e)

pub complete-held : (x : Slot) → complete x ≡ true → held x ≡ true
unfolding complete
complete-held x e = and_left (held x) (eqb x.accepted (need_of x)) e

pub sound-store : (s : Station) → is_sound s ≡ true → s.blocks ≤ 4096
unfolding is_sound set_up_sound
sound-store s e =
    leb-true s.blocks 4096
    (and_right (leb s.channels 8 && good_channels (named s) && leb 1 s.blocks) _ (and_left _ _ (and_left _ _ (and_left _ _ (and_left _ _ e)))))

-- what it tells that a slot is not refused
pub record Known (s : Station) (k : ℕ) : Type 0 where
  pub sound : is_sound s ≡ true
  pub store : s.blocks ≤ 4096
  pub low : k < 32

abbrev Told : Station → Result Held Refusal → Type 0
Told s (Err n) = Unit
Told s (Ok (Complete k)) = Known s k × (complete (slot_at s k) ≡ true)
Told s (Ok (Incomplete k)) = Known s k

told : (s : Station) (k : ℕ) → Told s (asked s k)
unfolding asked
told s k =
    if-cases (Told s) (not (is_sound s)) (λ e. tt)
    (λ e.
    if-cases (Told s) (not (is_held s k)) (λ f. tt)
    (λ f.
    let sound = not-false (is_sound s) e in
    let low = ltb-true k 32 (and_left (ltb k 32) (held (slot_at s k)) (not-false (is_held s k) f)) in
    let known : Known s k = record { sound = sound; store = sound-store s sound; low = low } in
    if-cases (Told s) (complete (slot_at s k)) (λ g. (known, g)) (λ g. known)))

module _ (s : Station) (k : ℕ) {a : Result Held Refusal} (e : a ≡ asked s k) {j : ℕ} where
  pub told-complete : a ≡ Ok (Complete j) → Known s j × (complete (slot_at s j) ≡ true)
  told-complete q = subst (Told s) (sym e ∙ q) (told s k)

  pub told-incomplete : a ≡ Ok (Incomplete j) → Known s j
  told-incomplete q = subst (Told s) (sym e ∙ q) (told s k)
