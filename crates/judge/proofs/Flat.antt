-- How the promise of one function follows from that of another: events behind events. Assumes nothing.
use mathlib.Core.Path.{◌≡◌, refl, ◌∙◌}
use mathlib.Core.List.{List, [], ◌∷◌, flat_map}
use Prim.Native.Nat.{ℕ, ◌+◌, ◌*◌}
use native.Mathlib.Omega.{arith}
use lib.ListN.{length, length-append}
use Rattle.octets.specs.Buffer.{put}
use Rattle.events.specs.Event.{Event, flat}
use Rattle.events.proofs.Flat.{flat-behind}
use Rattle.state.specs.declared.Station.{Station}
use Rattle.judge.specs.Judge.{Judged, gives, after}
use Rattle.judge.specs.Contract.{Tells}

-- the same outcome in other words
pub tells_as : {j i : Judged} {n m : ℕ} {list₀ list store : List ℕ} {t : Station} → j ≡ i → Tells i n list₀ t m store list
    → Tells j n list₀ t m store list
tells_as e t = rw e t

module _ {n : ℕ} {list₀ list : List ℕ} where
  -- what is promised behind some events is promised with them
  pub tells-after : (es : List Event) {j : Judged} {t : Station} {m : ℕ} {store : List ℕ}
      → Tells j (n + length es) (put list₀ (3 * n) (flat es)) t m store list → Tells (after es j) n list₀ t m store list
  tells-after es {j} t =
      record {
        station = t.station;
        events = t.events ∙ omega (arith, length-append es j.events);
        wrote = t.wrote;
        listed = t.listed ∙ flat-behind es j.events list₀ n;
      }

  pub tells-gives : (s : Station) (store : List ℕ) (es : List Event) {m : ℕ} → m ≡ n + length es → list ≡ put list₀ (3 * n) (flat es)
      → Tells (gives s store es) n list₀ s m store list
  tells-gives s store es e f = record { station = refl; events = e; wrote = refl; listed = f }

  pub tells-one : (s : Station) (store : List ℕ) (x : Event) {m : ℕ} → m ≡ n + 1
      → list ≡ put list₀ (3 * n) (x.kind ∷ x.application ∷ x.slot ∷ []) → Tells (gives s store (x ∷ [])) n list₀ s m store list
  unfolding flat flat_map
  tells-one s store x e f = tells-gives s store (x ∷ []) e f

pub tells_none : (s : Station) (store : List ℕ) (n : ℕ) (list : List ℕ) → Tells (gives s store []) n list s n store list
unfolding flat flat_map put
tells_none s store n list = tells-gives s store [] (omega arith) refl
