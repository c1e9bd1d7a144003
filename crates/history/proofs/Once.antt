-- The rules of specs/Openings.antt leave no choice: one case holds, and what comes out of it is a function of what came in. Assumes nothing.
use mathlib.Core.Path.{◌≡◌, refl, sym, ap, subst, ◌∙◌}
use mathlib.Core.Bool.{Bool, true, false, true≢false}
use mathlib.Core.Logic.{◌⊎◌, inl, inr}
use mathlib.Core.List.{List, [], ◌∷◌, ◌++◌, append-nil}
use Prim.Native.Nat.{ℕ, ◌+◌, ◌-◌, ◌%◌, ◌<◌}
use native.Mathlib.Decide.{ℕ_discrete}
use native.Mathlib.Omega.{arith}
use lib.ListN.{length, length-append}
use Rattle.octets.specs.Choice.{Decides}
use Rattle.octets.specs.Choice.Decides.{holds, fails}
use Rattle.packet.specs.declared.Look.{Look}
use Rattle.packet.specs.declared.Look.TheVariants.{Short, Bad, Good}
use Rattle.packet.specs.Header.{look_of, size_of}
use Rattle.packet.proofs.Looks.{look-tells}
use Rattle.events.specs.Event.{Event}
use Rattle.zone.specs.Zone.{Split, split, Unfinished}
use Rattle.zone.specs.Walk.{bad_events}
use Rattle.zone.proofs.Split.{Cuts, split-cuts, split-wholes, split-left, split-bad, split-unfinished, cut_all, carried-lacks}
use Rattle.zone.proofs.Split.Cuts.{at-end, at-bad}
use Rattle.zone.proofs.Readings.{agrees-exactly}
use Rattle.history.specs.Openings.{counter_in, pointer_in, zone_in, OnDesk, Follows, Lacks, Pointed, Carried, Dropped, Opens, Closes, RuledOnce}
use Rattle.history.specs.Openings.Dropped.{by-gap, none-held, by-header, by-pointer}
use Rattle.history.specs.Openings.Opens.{carries-on, begins-anew}
use Rattle.history.specs.Openings.Closes.{to_end, to-bad}

-- a header is not good and bad, and what a packet lacks is one number
module _ {d : OnDesk} {f : List ℕ} where
  good-bad : {r : ℕ} → Lacks d f r → look_of (d.held ++ zone_in f) ≡ Bad → ⊥
  good-bad l e =
      let g : look_of (d.held ++ zone_in f) ≡ Good l.header = l.good in
      let z : ◌≡◌ {A = ℕ} 0 1 = cc in
      omega arith

  lacks-once : {r q : ℕ} → Lacks d f r → Lacks d f q → r ≡ q
  lacks-once l m =
      let g : look_of (d.held ++ zone_in f) ≡ Good l.header = l.good in
      let h : look_of (d.held ++ zone_in f) ≡ Good m.header = m.good in
      let same : l.header ≡ m.header = cc in
      omega (arith, l.size, m.size, ap size_of same)

  none-lacks : {r : ℕ} → Lacks d f r → d.held ≡ [] → ⊥
  none-lacks l e = omega (arith, l.some, ap length e)

  pub apart : {es : List Event} → Carried d f → Dropped d f es → ⊥
  apart c (by-gap s n) = n c.lacks.follows
  apart c (none-held s e) = none-lacks c.lacks e
  apart c (by-header s n e) = good-bad c.lacks e
  apart c (by-pointer r l n) = n (subst (λ (q : ℕ). Pointed q f) (lacks-once c.lacks l) c.pointer)

  dropped-once : {es fs : List Event} → Dropped d f es → Dropped d f fs → es ≡ fs
  dropped-once (by-gap s n) (by-gap t m) = refl
  dropped-once (by-gap s n) (none-held m e) = absurd (n (m s))
  dropped-once (by-gap s n) (by-header k m e) = absurd (n m)
  dropped-once (by-gap s n) (by-pointer r l m) = absurd (n l.follows)
  dropped-once (none-held n e) (by-gap s m) = absurd (m (n s))
  dropped-once (none-held n e) (none-held m q) = refl
  dropped-once (none-held n e) (by-header k m q) = absurd (omega (arith, k, ap length e))
  dropped-once (none-held n e) (by-pointer r l m) = absurd (none-lacks l e)
  dropped-once (by-header k n e) (by-gap s m) = absurd (m n)
  dropped-once (by-header k n e) (none-held m q) = absurd (omega (arith, k, ap length q))
  dropped-once (by-header k n e) (by-header t m q) = refl
  dropped-once (by-header k n e) (by-pointer r l m) = absurd (good-bad l e)
  dropped-once (by-pointer r l n) (by-gap s m) = absurd (m l.follows)
  dropped-once (by-pointer r l n) (none-held m e) = absurd (none-lacks l e)
  dropped-once (by-pointer r l n) (by-header k m e) = absurd (good-bad l e)
  dropped-once (by-pointer r l n) (by-pointer q k m) = refl

  pub opens-once : {es fs : List Event} {xs ys : List ℕ} → Opens d f es xs → Opens d f fs ys → (es ≡ fs) × (xs ≡ ys)
  opens-once (carries-on c) (carries-on e) = (refl, refl)
  opens-once (carries-on c) (begins-anew e) = absurd (apart c e)
  opens-once (begins-anew c) (carries-on e) = absurd (apart e c)
  opens-once (begins-anew c) (begins-anew e) = (dropped-once c e, refl)

-- one of the cases holds
module _ (d : OnDesk) (f : List ℕ) (u : Unfinished d.held) (long : length (zone_in f) ≡ 884) where
  -- octets are held, and no frame is missing
  either-into : 0 < length d.held → Follows d f → (l : Look) → look_of (d.held ++ zone_in f) ≡ l
      → Carried d f ⊎ ((es : List Event) × Dropped d f es)
  either-into some n Short e = absurd (omega (arith, look-tells (d.held ++ zone_in f) e, length-append d.held (zone_in f)))
  either-into some n Bad e = inr (_, by-header some n e)
  either-into some n (Good h) e = by (agrees-exactly r (pointer_in f))
    where
      r : ℕ
      r = size_of h - length d.held

      lacks : Lacks d f r
      lacks = record { some = some; follows = n; header = h; good = e; size = omega (arith, carried-lacks d.held (zone_in f) e u) }

      by : {b : Bool} → Decides (Pointed r f) b → Carried d f ⊎ ((es : List Event) × Dropped d f es)
      by (holds p) = inl (record { lacked = r; lacks = lacks; pointer = p })
      by (fails p) = inr (_, by-pointer r lacks p)

  pub either : (0 < length d.held → d.seen ≡ true) → Carried d f ⊎ ((es : List Event) × Dropped d f es)
  either s =
      elim (ℕ_discrete (counter_in f) ((d.last + 1) % 0x1000000)) [
        | yes n ↦ seamless (λ q. n) d.held refl
        | no n ↦ missing n d.seen refl
      ]
    where
      seamless : (d.seen ≡ true → Follows d f) → (xs : List ℕ) → d.held ≡ xs → Carried d f ⊎ ((es : List Event) × Dropped d f es)
      seamless n [] e = inr (_, none-held n e)
      seamless n (x ∷ xs) e =
          let some : 0 < length d.held = omega (arith, ap length e) in
          either-into some (n (s some)) (look_of (d.held ++ zone_in f)) refl

      missing : (Follows d f → ⊥) → (b : Bool) → d.seen ≡ b → Carried d f ⊎ ((es : List Event) × Dropped d f es)
      missing n true e = inr (_, by-gap e n)
      missing n false e = seamless (λ q. absurd (true≢false (sym q ∙ e))) d.held refl

-- what `split` cuts from octets is cut by the rule; and whoever cuts by the rule cuts so
pub closed : (xs : List ℕ) → Closes xs (split xs).packets (split xs).left (bad_events (split xs).bad)
closed xs = by (split-cuts xs)
  where
    by : Cuts xs (split xs) → Closes xs (split xs).packets (split xs).left (bad_events (split xs).bad)
    by (at-end b e) = rw b (to_end (split-wholes xs) (split-left xs) e)
    by (at-bad b l rest q e) = rw (b, l) (to-bad rest (split-wholes xs) q e)

-- packets in front of what `split` says of the rest
abbrev before : List (List ℕ) → Split → Split
before ps sp = record { packets = ps ++ sp.packets; bad = sp.bad; left = sp.left }

pub closes-split : (xs : List ℕ) {ps : List (List ℕ)} {held : List ℕ} {es : List Event} → Closes xs ps held es
    → ((split xs).packets ≡ ps) × ((split xs).left ≡ held) × (bad_events (split xs).bad ≡ es)
closes-split xs {ps} (to_end {held} w u e) =
    let is = ap split (sym e) ∙ cut_all ps held w ∙ ap (before ps) (split-unfinished u) in (
      ap (λ (sp : Split). sp.packets) is ∙ append-nil ps,
      ap (λ (sp : Split). sp.left) is,
      ap (λ (sp : Split). bad_events sp.bad) is,
    )
closes-split xs {ps} (to-bad rest w q e) =
    let is = ap split (sym e) ∙ cut_all ps rest w ∙ ap (before ps) (split-bad rest q) in (
      ap (λ (sp : Split). sp.packets) is ∙ append-nil ps,
      ap (λ (sp : Split). sp.left) is,
      ap (λ (sp : Split). bad_events sp.bad) is,
    )

pub closes-once : (xs : List ℕ) {ps qs : List (List ℕ)} {held kept : List ℕ} {es fs : List Event} → Closes xs ps held es → Closes xs qs kept fs
    → (ps ≡ qs) × (held ≡ kept) × (es ≡ fs)
closes-once xs c e =
    let a = closes-split xs c in
    let b = closes-split xs e in
    (sym a.0 ∙ b.0, sym a.1 ∙ b.1, sym a.2 ∙ b.2)

pub ruled-once : RuledOnce
ruled-once =
    record { apart = λ d f. apart; either = λ d f u s l. either d f u l s; opens = λ d f. opens-once; closes = closes-once }
