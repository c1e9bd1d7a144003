-- `are_desks_sound` meets its contract. The loop's invariant: the octets of the first n desks are sound exactly if those from number i on
-- are. Assumes nothing.
use mathlib.Core.Path.{◌≡◌, refl, ap, ap₂, sym, ◌∙◌}
use mathlib.Core.Bool.{true}
use mathlib.Core.List.{List}
use Prim.Native.Nat.{ℕ, ◌+◌, ◌-◌, ◌*◌, ◌≤◌, ◌<◌}
use native.Mathlib.Numerals.{add-one}
use native.Mathlib.Omega.{arith}
use lib.ListN.{length, get_or, take}
use lib.Seq.{length-take-le, get_or-take}
use Rattle.octets.specs.Each.{each}
use Rattle.octets.specs.Number.{part}
use Rattle.octets.proofs.Decide.{told-true}
use Rattle.octets.proofs.Each.{each_at}
use Rattle.octets.proofs.Lists.{whole_part}
use Rattle.state.specs.declared.Desk.{Desk}
use Rattle.state.specs.Slots.{empty_desk}
use Rattle.state.specs.Sound.{desk_octets}
use Rattle.state.specs.Decision.{desks_held, desk_holds}
use Rattle.state.proofs.Exactly.{desk-exactly}
use Rattle.state.proofs.Walk.{settled, passed, ended}
use Rattle.desks.proofs.are_desks_sound.Goals as goal

-- the octets of desk i, as the code cuts them out
abbrev cut_out : ℕ → List ℕ → List ℕ
cut_out i desks = part (i * 8198) (i * 8198 + 8198 - i * 8198) desks

cut_out_lem : (i : ℕ) (desks : List ℕ) → cut_out i desks ≡ desk_octets i desks
cut_out_lem i desks =
    let from : i * 8198 ≡ 8198 * i = omega arith in
    let long : i * 8198 + 8198 - i * 8198 ≡ 8198 = omega arith in
    ap₂ (λ (a m : ℕ). part a m desks) from long

-- a desk that holds what it may has room for it
room : (n : ℕ) (ds : List Desk) (d : Desk) (i : ℕ) (desks : List ℕ) → n ≤ length ds → each desk_holds (take n ds) ≡ true
    → length desks ≡ 8198 * n → i < n → (get_or ds i d).held ≤ length (cut_out i desks)
room n ds d i desks few e l h =
    let holds = each_at desk_holds (take n ds) d e i (omega (arith, length-take-le n ds few)) in
    let held = (told-true (desk-exactly (get_or (take n ds) i d)) holds).few in
    let same : (get_or (take n ds) i d).held ≡ (get_or ds i d).held = ap (λ (y : Desk). y.held) (get_or-take n ds i d h) in
    omega (arith, ap length (cut_out_lem i desks), whole_part desks (8198 * i) 8198 (omega arith))

pub octets_held-requires : goal.octets_held-requires
octets_held-requires c =
    let p = c.requires in
    room _ _ empty_desk c.loop-i.i _ c.loop-i.invariant.there p.positions_hold p.desks_fit.1 (omega arith)

pub returns-then-not-octets_held : goal.returns-then-not-octets_held
unfolding desks_held
returns-then-not-octets_held c =
    let l = c.loop-i in
    settled l.invariant empty_desk (omega arith) (rw (← cut_out_lem l.i _, sym c.octets_held.ensures ∙ c.if-not-octets_held.true))

pub loop-i-preserved : goal.loop-i-preserved
unfolding desks_held
loop-i-preserved c =
    let l = c.loop-i in
    let sound = sym c.octets_held.ensures ∙ c.if-not-octets_held.false in
    passed l.invariant empty_desk (omega arith) (rw (← cut_out_lem l.i _, sound, add-one l.i))

pub returns : goal.returns
unfolding desks_held
returns c = ended c.loop-i.invariant (omega arith) refl
