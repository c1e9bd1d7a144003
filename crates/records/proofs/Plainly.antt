-- The fields of the fixed record types in their octets. Assumes nothing.
use mathlib.Core.Path.{◌≡◌, refl, ap}
use mathlib.Core.List.{List}
use Prim.Native.Nat.{ℕ, ◌+◌, ◌*◌, ◌≤◌, ◌<◌}
use native.Mathlib.Omega.{arith}
use lib.ListN.{length, get_or}
use Rattle.octets.specs.Number.{signed, number_at}
use Rattle.octets.proofs.Numbers.{number_more, number_at-one, two-octets, three-octets}
use Rattle.records.specs.Table as table
use Rattle.records.specs.Records.{field_of}
use Rattle.records.specs.Reader.{primary_of, image_at, navigation_at, time_at, segment_at}
use Rattle.records.specs.Plainly.{two, four, PrimaryPlainly, ImagePlainly, NavigationPlainly, TimePlainly, SegmentPlainly}

module _ (xs : List ℕ) where
  -- four octets in a row
  four-octets : (at : ℕ) → at + 3 < length xs → number_at xs at 4 ≡ four xs at
  four-octets at h = omega (arith, number_more xs at _ 3 h (three-octets xs at (omega arith)))

  -- and the eight of the data field's length
  eight-octets : 16 ≤ length xs → number_at xs 8 8 ≡ four xs 8 * 0x100000000 + four xs 12
  eight-octets h =
      let next : (i : ℕ) → i < 8 → number_at xs 8 i * 256 + get_or xs (8 + i) 0 ≡ number_at xs 8 (i + 1) =
      λ i l. number_more xs 8 (number_at xs 8 i) i (omega arith) refl in
      let six : number_at xs 8 6 ≡ four xs 8 * 0x10000 + two xs 12 =
      omega (arith, four-octets 8 (omega arith), next 4 (omega arith), next 5 (omega arith)) in
      omega (arith, six, next 6 (omega arith), next 7 (omega arith))

  pub primary-plainly : 16 ≤ length xs → PrimaryPlainly xs (primary_of xs)
  unfolding primary_of
  primary-plainly h =
      record {
        filetype = omega (arith, number_at-one xs 3 (omega arith));
        long = omega (arith, four-octets 4 (omega arith));
        bits = omega (arith, eight-octets h);
      }

  module _ (p : ℕ) where
    pub image-plainly : p + 9 ≤ length xs → ImagePlainly xs p (image_at xs p)
    unfolding image_at
    image-plainly h =
        record {
          bits = omega (arith, number_at-one xs (p + 3) (omega arith));
          columns = omega (arith, two-octets xs (p + 4) (omega arith));
          lines = omega (arith, two-octets xs (p + 6) (omega arith));
          compression = omega (arith, number_at-one xs (p + 8) (omega arith));
        }

    pub navigation-plainly : p + 51 ≤ length xs → NavigationPlainly xs p (navigation_at xs p)
    unfolding navigation_at
    navigation-plainly h =
        let cfac : field_of xs p table.CFAC ≡ four xs (p + 35) = omega (arith, four-octets (p + 35) (omega arith)) in
        let lfac : field_of xs p table.LFAC ≡ four xs (p + 39) = omega (arith, four-octets (p + 39) (omega arith)) in
        let coff : field_of xs p table.COFF ≡ four xs (p + 43) = omega (arith, four-octets (p + 43) (omega arith)) in
        let loff : field_of xs p table.LOFF ≡ four xs (p + 47) = omega (arith, four-octets (p + 47) (omega arith)) in
        record { cfac = ap signed cfac; lfac = ap signed lfac; coff = ap signed coff; loff = ap signed loff }

    pub time-plainly : p + 10 ≤ length xs → TimePlainly xs p (time_at xs p)
    unfolding time_at
    time-plainly h =
        record {
          pfield = omega (arith, number_at-one xs (p + 3) (omega arith));
          days = omega (arith, two-octets xs (p + 4) (omega arith));
          milliseconds = omega (arith, four-octets (p + 6) (omega arith));
        }

    pub segment-plainly : p + 7 ≤ length xs → SegmentPlainly xs p (segment_at xs p)
    unfolding segment_at
    segment-plainly h =
        record {
          number = omega (arith, number_at-one xs (p + 3) (omega arith));
          total = omega (arith, number_at-one xs (p + 4) (omega arith));
          line = omega (arith, two-octets xs (p + 5) (omega arith));
        }
