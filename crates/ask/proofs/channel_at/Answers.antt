-- `ask::channel_at` meets its contract. Assumes nothing.
use Rattle.std.proofs.lemmas.Option.{IfSome_then}
use mathlib.Core.Path.{◌∙◌}
use Prim.Native.Nat.{◌<◌}
use native.Mathlib.Omega.{arith}
use borrow.Author.Rules.{rules}
use Rattle.refusals.proofs.Passing.{passed_on}
use Rattle.catalogue.specs.Catalogue.{channel_widths, channels_of}
use Rattle.catalogue.specs.Reading.{Lies}
use Rattle.catalogue.specs.Asking.{channel_entry, channel_asked}
use Rattle.catalogue.proofs.Judging.{found-lies}
use Rattle.catalogue.proofs.Asking.{channel-count, channel-stands}
use Rattle.ask.proofs.Answered.{was-found, refused, answered, WasRead, read-at, told}
use Rattle.ask.proofs.channel_at.Goals as goal
use Rattle.ask.proofs.channel_at.Goals.{In_ok-at}

lies : (c : In_ok-at) → Lies c.args.s.now c.in_ok-at.at
lies c = (found-lies (was-found _ c.places.ensures c.in_ok-at.was)).1

pub returns-in_err-at : goal.returns-in_err-at
unfolding channel_asked
returns-in_err-at c =
    let s = c.args.s.now in
    passed_on _ c.from_residual.ensures.1 ∙ refused s c.places.ensures channel_entry (channels_of s) c.args.n c.in_err-at.was

pub then-requires : goal.then-requires
then-requires c t =
    let L = lies (goal.at.then-requires c).In_ok-at in
    let below : c.args.n < c.in_ok-at.at.channels = omega (arith, told) in
    omega (arith, L.second, L.third, L.ends)

pub returns : goal.returns
unfolding channel_asked
returns c =
    let s = c.args.s.now in
    let n = c.args.n in
    let L = lies (goal.at.returns c).In_ok-at in
    answered s c.places.ensures channel_entry (channels_of s) n c.in_ok-at.was c.then.result c.then.ensures.variant
    (λ g. omega (arith, told, channel-count L)) (λ g. omega (arith, told, channel-count L))
    (IfSome_then c.then.result c.then.ensures.some (λ x p.
    let w : WasRead channel_entry channel_widths s x = search rules in
    read-at w (omega arith)))
    (λ h. channel-stands L n (omega (arith, h, channel-count L)))
