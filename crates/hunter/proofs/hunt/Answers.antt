use mathlib.Core.Path.{◌≡◌, sym, ◌∙◌}
use borrow.Author.Rules.{rules}
use lib.ListN.{length}
use Rattle.octets.proofs.Decide.{told-true}
use Rattle.stream.specs.Hunter.{Sound}
use Rattle.stream.proofs.Sounding.{decides-sound}
use Rattle.stream.proofs.Feeding.{roomless, unsound, hunted-sound}
use Rattle.hunter.proofs.hunt.Goals as goal
use Rattle.hunter.proofs.hunt.Goals.{Else-not-is_sound, Start}

size : (c : Start) → length c.args.h.octets ≡ 1024
size c = search rules

sound-there : (c : Else-not-is_sound) → Sound c.args.h
sound-there c =
    told-true (decides-sound c.args.h (size (goal.at.Else-not-is_sound c).Start)) (sym c.is_sound.ensures ∙ c.if-not-is_sound.false)

pub returns-then-buffer-ne-SIZE : goal.returns-then-buffer-ne-SIZE
returns-then-buffer-ne-SIZE c =
    let a = c.args in
    sym (roomless a.h a.portion.now a.buffer.now c.if-buffer-ne-SIZE.true)

pub returns-then-not-is_sound : goal.returns-then-not-is_sound
returns-then-not-is_sound c =
    let a = c.args in
    sym (unsound a.h a.portion.now a.buffer.now c.if-buffer-ne-SIZE.false (sym c.is_sound.ensures ∙ c.if-not-is_sound.true))

pub search-requires : goal.search-requires
search-requires c = record { sound = sound-there (goal.at.search-requires c).Else-not-is_sound; room = c.if-buffer-ne-SIZE.false }

pub returns : goal.returns
returns c =
    let a = c.args in
    c.search.ensures
    ∙ sym (hunted-sound a.h a.portion.now a.buffer.now c.if-buffer-ne-SIZE.false (sound-there (goal.at.returns c).Else-not-is_sound))
