-- The events as the list holds them. Assumes nothing.
use mathlib.Core.Path.{◌≡◌, refl, sym, ap, ◌∙◌}
use mathlib.Core.List.{List, [], ◌∷◌, ◌++◌, flat_map}
use Prim.Native.Nat.{ℕ, ◌+◌, ◌*◌}
use native.Mathlib.Omega.{arith}
use lib.ListN.{length}
use Rattle.octets.specs.Buffer.{put}
use Rattle.octets.proofs.Put.{put-put}
use Rattle.events.specs.Event.{Event, flat}

pub flat_append : (es fs : List Event) → flat (es ++ fs) ≡ flat es ++ flat fs
unfolding flat flat_map
flat_append [] fs = refl
flat_append (e ∷ es) fs = ap (λ (ns : List ℕ). e.kind ∷ e.application ∷ e.slot ∷ ns) (flat_append es fs)

-- "three to an event"
pub flat-length : (es : List Event) → length (flat es) ≡ 3 * length es
unfolding flat flat_map
flat-length [] = refl
flat-length (e ∷ es) = omega (arith, flat-length es)

-- events behind events
pub flat-behind : (es fs : List Event) (list : List ℕ) (n : ℕ)
    → put (put list (3 * n) (flat es)) (3 * (n + length es)) (flat fs) ≡ put list (3 * n) (flat (es ++ fs))
flat-behind es fs list n =
    let k : 3 * (n + length es) ≡ 3 * n + length (flat es) = omega (arith, flat-length es) in
    ap (λ (m : ℕ). put (put list (3 * n) (flat es)) m (flat fs)) k ∙ put-put (flat es) list (3 * n) (flat fs)
    ∙ ap (put list (3 * n)) (sym (flat_append es fs))
