-- `admit` meets its contract: each refusal in its turn, then those of the frame itself. Assumes nothing.
use Rattle.std.specs.Prelude.{Result, Ok}
use mathlib.Core.Path.{◌≡◌, sym, ◌∙◌}
use mathlib.Core.Bool.{true}
use mathlib.Core.List.{List}
use Prim.Native.Nat.{ℕ}
use borrow.Author.Rules.{rules}
use lib.ListN.{take}
use Rattle.octets.proofs.Lists.{unmap}
use Rattle.refusals.specs.declared.Refusal.{Refusal}
use Rattle.frame.specs.declared.Accepted.{Accepted}
use Rattle.frame.specs.declared.Channel.{Channel}
use Rattle.frame.specs.Header.{derandomised}
use Rattle.frame.specs.Refusals.{examined, plain_after}
use Rattle.frame.proofs.Answers.{good-framed}
use Rattle.frame.proofs.Framing.{plain-framed}
use Rattle.state.specs.declared.Station.{Station}
use Rattle.state.specs.Slots.{station_of}
use Rattle.state.specs.Sound.{Sized}
use Rattle.state.specs.Decision.{desks_held, is_sound}
use Rattle.station.specs.Frame.{lent_right}
use Rattle.station.proofs.Frames.{desks-hold, channels-few, lent-desks, refused-lent, refused-state, refused-desks, as-examined}
use Rattle.reception.proofs.admit.Goals as goal
use Rattle.reception.proofs.admit.Goals.{Else-not-are_desks_sound, Else-not-are_parts_sound, Else-not-lent_right, Start}

abbrev state : Start → Station
state i = station_of i.args.head i.args.owner.now i.args.slots

sized : (i : Start) → Sized (state i)
sized i =
    record { watched = search (rules, unmap); desks = search (rules, unmap); owner = search rules; slots = search (rules, unmap) }

-- what the three tests before the frame is looked at said, where each was passed
abbrev start : Else-not-lent_right → Start
start l = (goal.at.Else-not-lent_right l).Start

lent : (l : Else-not-lent_right) → lent_right (state (start l)) (start l).args.desks.now (start l).args.store.now (start l).args.list.now ≡ true
lent l = sym l.lent_right.ensures ∙ l.if-not-lent_right.false

abbrev fits : Else-not-are_parts_sound → Else-not-lent_right
fits e = (goal.at.Else-not-are_parts_sound e).Else-not-lent_right

sound : (e : Else-not-are_parts_sound) → is_sound (state (start (fits e))) ≡ true
sound e = sym e.are_parts_sound.ensures ∙ e.if-not-are_parts_sound.false

abbrev steady : Else-not-are_desks_sound → Else-not-are_parts_sound
steady d = (goal.at.Else-not-are_desks_sound d).Else-not-are_parts_sound

orderly : (d : Else-not-are_desks_sound)
    → (let i = start (fits (steady d)) in desks_held 0 (take i.args.head.channels i.args.head.desks) i.args.desks.now) ≡ true
orderly d = sym d.are_desks_sound.ensures ∙ d.if-not-are_desks_sound.false

-- the scratch octets, where a frame was found good
plain-good : (craft : ℕ) (watched : List Channel) (f before : List ℕ) {plain : List ℕ} {x : Result Accepted Refusal} → x ≡ examined craft watched f
    → plain ≡ plain_after f before → (a : Accepted) → x ≡ Ok a → plain ≡ derandomised f
plain-good craft watched f before e p a g = p ∙ plain-framed f before (good-framed craft watched f a (sym e ∙ g))

pub returns-then-not-lent_right : goal.returns-then-not-lent_right
returns-then-not-lent_right c =
    let a = c.args in
    let wrong = sym c.lent_right.ensures ∙ c.if-not-lent_right.true in
    record {
      value = refused-lent (state (goal.at.returns-then-not-lent_right c).Start) a.desks.now a.store.now a.list.now a.octets.now wrong;
      plain_after = λ a e. cc;
    }

pub returns-then-not-are_parts_sound : goal.returns-then-not-are_parts_sound
returns-then-not-are_parts_sound c =
    let l = (goal.at.returns-then-not-are_parts_sound c).Else-not-lent_right in
    record {
      value = refused-state _ _ _ _ _ (lent l) (sym c.are_parts_sound.ensures ∙ c.if-not-are_parts_sound.true);
      plain_after = λ a e. cc;
    }

pub are_desks_sound-requires : goal.are_desks_sound-requires
are_desks_sound-requires c =
    let e = (goal.at.are_desks_sound-requires c).Else-not-are_parts_sound in
    let i = start (fits e) in
    record {
      desks_fit = (channels-few _ (sized i) (sound e), lent-desks (state i) i.args.desks.now i.args.store.now i.args.list.now (lent (fits e)));
      positions_hold = desks-hold _ (sound e);
    }

pub returns-then-not-are_desks_sound : goal.returns-then-not-are_desks_sound
returns-then-not-are_desks_sound c =
    let s = (goal.at.returns-then-not-are_desks_sound c).Else-not-are_parts_sound in
    let wrong = sym c.are_desks_sound.ensures ∙ c.if-not-are_desks_sound.true in
    record { value = refused-desks _ _ _ _ _ (lent (fits s)) (sound s) wrong; plain_after = λ a e. cc }

pub examine-requires : goal.examine-requires
examine-requires c =
    let e = steady (goal.at.examine-requires c).Else-not-are_desks_sound in
    (search rules, channels-few _ (sized (start (fits e))) (sound e))

pub returns : goal.returns
returns c =
    let d = (goal.at.returns c).Else-not-are_desks_sound in
    let e = steady d in
    let told = c.examine.ensures in
    record {
      value = told.value ∙ as-examined _ _ _ _ _ (lent (fits e)) (sound e) (orderly d);
      plain_after = plain-good _ _ _ _ told.value told.plain_after;
    }
