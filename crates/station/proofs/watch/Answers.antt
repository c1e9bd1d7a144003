-- `watch` meets its contract: the constructor takes each of the good channels. The loop's invariant: the channels stored so far, those from place i
-- on, and what stands behind them all are what is wanted. Assumes nothing.
use mathlib.Core.Path.{◌≡◌, refl, sym, ap, ◌∙◌}
use mathlib.Core.List.{List, ◌++◌, map, append-nil}
use Prim.Native.Nat.{ℕ, zero, suc, ◌+◌, ◌-◌, ◌≤◌, ◌<◌}
use native.Mathlib.Nat.{sub-zero, zero-sub, suc-sub-suc}
use native.Mathlib.Numerals.{add-one}
use native.Mathlib.Omega.{arith}
use borrow.Author.Rules.{rules}
use lib.ListN.{length, get_or, set, take, drop, replicate, drop_of_length-le, take-append-drop}
use lib.Seq.{drop-cons, take-suc-set, drop-set-lt, append_snoc}
use Rattle.frame.specs.declared.Channel.{Channel}
use Rattle.frame.proofs.Made.{made-channel, no-channel}
use Rattle.station.specs.SetUp.{channel_of}
use Rattle.station.proofs.Fresh.{few-channels, low-channels}
use Rattle.station.proofs.watch.Goals as goal

-- a list whose first part is filled with what f makes of another
module _ {A B : Type 0} (f : A → B) (xs : List A) (out : List B) (i : ℕ) {all : List B} (e : all ≡ take i out ++ map f (drop i xs) ++ drop (length xs) out) where
  map_more : (d : A) {v : B} → v ≡ f (get_or xs i d) → i < length xs → length xs ≤ length out
      → all ≡ take (i + 1) (set out i v) ++ map f (drop (i + 1) xs) ++ drop (length xs) (set out i v)
  map_more d {v} is h k =
      e ∙ rw (drop-cons xs i d h, ← is, add-one i, take-suc-set out i v (omega arith), drop-set-lt (length xs) out i v h, append_snoc)

  map-end : length xs ≡ i → out ≡ all
  map-end h = sym (e ∙ rw (drop_of_length-le xs {i = i} (omega arith), append-nil, h, take-append-drop))

drop-replicate : {A : Type 0} (n m : ℕ) (x : A) → drop m (replicate n x) ≡ replicate (n - m) x
drop-replicate n zero x = rw sub-zero
drop-replicate zero (suc m) x = rw zero-sub
drop-replicate (suc n) (suc m) x = rw suc-sub-suc (drop-replicate n m x)

pub loop-i-init : goal.loop-i-init
loop-i-init c =
    let channels : List ℕ = c.args.channels.now in
    let rest = sym (drop-replicate 8 (length channels) (channel_of 0)) in
    (few-channels channels c.requires, refl, ap (λ (l : List Channel). map channel_of channels ++ l) rest)

pub returns-in_default : goal.returns-in_default
returns-in_default c =
    let channels : List ℕ = c.args.channels.now in
    let i : ℕ = c.loop-i.i in
    let high : 62 < get_or channels i 0 = no-channel (get_or channels i 0) c.checked-checked.ensures c.in_default.is in
    let low : get_or channels i 0 ≤ 62 = low-channels channels c.requires i (omega arith) in
    absurd (omega arith)

pub loop-i-preserved : goal.loop-i-preserved
loop-i-preserved c =
    let made = made-channel _ c.checked-checked.ensures c.in-Some.is in
    let channels : List ℕ = c.args.channels.now in
    (omega arith, search rules, map_more channel_of channels c.loop-i.watched c.loop-i.i c.loop-i.invariant.2 0 made (omega arith) (omega arith))

pub returns : goal.returns
returns c =
    map-end channel_of c.args.channels.now c.loop-i.watched c.loop-i.i c.loop-i.invariant.2 (omega arith)
