-- A record as its octets give it, also where the header ends before its length does. Assumes nothing.
use mathlib.Core.Path.{◌≡◌, sym, ap, ◌∙◌}
use mathlib.Core.List.{List}
use Prim.Native.Nat.{ℕ, ◌+◌, ◌-◌, ◌≤◌, ◌<◌}
use native.Mathlib.Omega.{arith}
use lib.ListN.{length, drop, get_or, length-drop}
use lib.Seq.{take_all}
use Rattle.octets.specs.Number.{number, number_at}
use Rattle.octets.proofs.Numbers.{number_at-one}
use Rattle.records.specs.Records.{record_at}
use Rattle.records.specs.declared.Record.{Record}

-- a number that is read as far as the octets go, by two widths that both pass their end
number_at-rest : (xs : List ℕ) (at v w : ℕ) → length xs ≤ at + v → length xs ≤ at + w → number_at xs at v ≡ number_at xs at w
unfolding number_at
number_at-rest xs at v w h k =
    ap number (take_all v (drop at xs) (omega (arith, length-drop at xs)) ∙ sym (take_all w (drop at xs) (omega (arith, length-drop at xs))))

module _ (header : List ℕ) (at n : ℕ) (h : at < length header) where
  pub record-whole : n ≡ number_at header (at + 1) 2
      → ◌≡◌ {A = Record} (record { kind = get_or header at 0; place = at; length = n }) (record_at header at)
  unfolding record_at
  record-whole e = λ i. record { kind = sym (number_at-one header at h) i; place = at; length = e i }

  pub record-ended : length header - at < 3 → n ≡ number_at header (at + 1) (length header - at - 1)
      → ◌≡◌ {A = Record} (record { kind = get_or header at 0; place = at; length = n }) (record_at header at)
  record-ended short e =
      record-whole (e ∙ number_at-rest header (at + 1) (length header - at - 1) 2 (omega arith) (omega arith))
