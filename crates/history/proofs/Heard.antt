-- What was heard frame by frame was heard in stretches, and there is one way to hear it. Assumes nothing.
use mathlib.Core.Path.{◌≡◌, refl, sym, ap, ap₂, subst, ◌∙◌}
use mathlib.Core.List.{List, [], ◌∷◌, ◌++◌, append_assoc, flatten}
use Prim.Native.Nat.{ℕ, ◌<◌}
use native.Mathlib.Omega.{arith}
use lib.ListN.{length, length-append}
use Rattle.octets.proofs.Lists.{snoc-once, flatten-append}
use Rattle.events.specs.Event.{Event}
use Rattle.zone.specs.Zone.{Wholes}
use Rattle.history.specs.Openings.{counter_in, zone_in, OnDesk, leaving, Carried, Opens, Closes}
use Rattle.history.specs.Openings.Opens.{carries-on, begins-anew}
use Rattle.history.specs.Openings.Closes.{to_end, to-bad}
use Rattle.history.specs.Heard.{Listened, Heard}
use Rattle.history.specs.Heard.Listened.{silence, one_more}
use Rattle.history.specs.Heard.Stretch.{begins, goes_on}
use Rattle.history.specs.Heard.Heard.{nothing, and_then}
use Rattle.history.proofs.Once.{opens-once, closes-once}

wholes-append : (ps qs : List (List ℕ)) → Wholes ps → Wholes qs → Wholes (ps ++ qs)
wholes-append [] qs v w = w
wholes-append (p ∷ ps) qs v w = (v.0, wholes-append ps qs v.1 w)

-- packets, and then others with what is left
in-front : (ps qs : List (List ℕ)) (held rest zone xs : List ℕ) → flatten ps ++ held ≡ xs → flatten qs ++ rest ≡ held ++ zone
    → flatten (ps ++ qs) ++ rest ≡ xs ++ zone
in-front ps qs held rest zone xs e q =
    ap (λ (r : List ℕ). r ++ rest) (flatten-append ps qs) ∙ append_assoc (flatten ps) (flatten qs) rest ∙ ap (λ (r : List ℕ). flatten ps ++ r) q
    ∙ sym (append_assoc (flatten ps) held zone) ∙ ap (λ (r : List ℕ). r ++ zone) e

-- octets that were read to their end, and read on
closes-on : {xs held kept : List ℕ} {ps : List (List ℕ)} {es fs : List Event} (zone : List ℕ) (qs : List (List ℕ)) → 0 < length held
    → Closes xs ps held es → Closes (held ++ zone) qs kept fs → Closes (xs ++ zone) (ps ++ qs) kept fs
closes-on {xs} {held} {kept} {ps} zone qs some (to_end v u e) (to_end w t q) =
    to_end (wholes-append ps qs v w) t (in-front ps qs held kept zone xs e q)
closes-on {xs} {held} {kept} {ps} zone qs some (to_end v u e) (to-bad rest w t q) =
    to-bad rest (wholes-append ps qs v w) t (in-front ps qs held rest zone xs e q)
closes-on zone qs some (to-bad rest v u e) c = absurd (omega arith)

-- a frame with which the last stretch goes on
onward : {fs ps : List (List ℕ)} {d : OnDesk} {f held : List ℕ} {es : List Event} (qs : List (List ℕ)) → Heard fs ps d → Carried d f
    → Closes (d.held ++ zone_in f) qs held es → Heard (fs ++ (f ∷ [])) (ps ++ qs) (leaving held (counter_in f))
onward qs nothing c e = absurd (omega (arith, c.lacks.some))
onward {f = f} qs (and_then {fs = fs} {gs} {ps} ns h why st cl) c e =
    rw (append_assoc fs gs (f ∷ []), append_assoc ps ns qs)
    (and_then (ns ++ qs) h why (goes_on f st c.lacks.follows) (closes-on (zone_in f) qs c.lacks.some cl e))

pub stretches : {fs ps : List (List ℕ)} {d : OnDesk} → Listened fs ps d → Heard fs ps d
stretches silence = nothing
stretches (one_more qs l (carries-on c) e) = onward qs (stretches l) c e
stretches (one_more qs l (begins-anew c) e) = and_then qs (stretches l) c begins e

pub listened-once : {fs gs ps qs : List (List ℕ)} {d e : OnDesk} → Listened fs ps d → Listened gs qs e → fs ≡ gs → (ps ≡ qs) × (d ≡ e)
listened-once silence silence q = (refl, refl)
listened-once silence (one_more {fs = fs} {f = f} qs l o c) q = absurd (omega (arith, ap length q, length-append fs (f ∷ [])))
listened-once (one_more {fs = fs} {f = f} qs l o c) silence q = absurd (omega (arith, ap length q, length-append fs (f ∷ [])))
listened-once (one_more {fs = fs} {d = d} {f = f} {xs = xs} {held = held} {es = es} {zs = zs} ps l o c)
    (one_more {fs = gs} {d = b} {f = g} {xs = ys} qs m p e) q =
    let s = snoc-once fs gs f g q in
    let r = listened-once l m s.0 in
    let opened : Opens b g es xs = subst (λ (x : List ℕ). Opens b x es xs) s.1 (subst (λ (x : OnDesk). Opens x f es xs) r.1 o) in
    let same = opens-once opened p in
    let closed = closes-once ys (subst (λ (x : List ℕ). Closes x ps held zs) same.1 c) e in
    (ap₂ ◌++◌ r.0 closed.0, ap₂ leaving closed.1 (ap counter_in s.1))
