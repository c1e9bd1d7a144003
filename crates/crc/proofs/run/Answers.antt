-- `crc::run` meets its contract: few octets bit by bit; of many those that are over a multiple of four, then the others by the tables. Assumes nothing.
use mathlib.Core.Path.{◌≡◌, sym, ap, ap₂, ◌∙◌}
use mathlib.Core.List.{List}
use Prim.Native.Nat.{ℕ, ◌-◌, ◌%◌}
use native.Mathlib.Nat.{sub-zero}
use native.Mathlib.Omega.{arith}
use lib.ListN.{length, take, drop, take-append-drop, length-drop}
use lib.Seq.{take_all}
use Rattle.octets.specs.Number.{part}
use Rattle.crc.specs.Crc.{crc_from}
use Rattle.crc.proofs.Laws.{crc-append}
use Rattle.crc.proofs.run.Goals as goal

joined : (register : ℕ) (xs : List ℕ) (n c r : ℕ) → c ≡ crc_from register (part 0 (n - 0) xs) → r ≡ crc_from c (part n (length xs - n) xs) → r ≡ crc_from register xs
joined register xs n c r e f =
    let front : part 0 (n - 0) xs ≡ take n xs = ap (λ (m : ℕ). take m xs) (sub-zero n) in
    let behind : part n (length xs - n) xs ≡ drop n xs = take_all (length xs - n) (drop n xs) (omega (arith, length-drop n xs)) in
    f
    ∙ ap₂ crc_from (e ∙ ap (crc_from register) front) behind
    ∙ sym (crc-append register (take n xs) (drop n xs))
    ∙ ap (crc_from register) (take-append-drop n xs)

pub returns : goal.returns
returns c =
    let xs = c.args.octets.now in
    joined _ xs (length xs % 4) _ _ c.by_bits-c.ensures c.by_tables-2.ensures
