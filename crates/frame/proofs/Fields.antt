-- The fields of a frame's header are bounded by their widths. Assumes nothing.
use mathlib.Core.List.{List}
use Prim.Native.Nat.{ℕ}
use lib.ListN.{take}
use Rattle.octets.proofs.Numbers.{bits_at-below}
use Rattle.frame.specs.Header.{frame_of, Bounded}

pub bounded : (plain : List ℕ) → Bounded (frame_of plain)
unfolding frame_of
bounded plain =
    let h : List ℕ = take 8 plain in
    record {
      version = bits_at-below h 0 2;
      spacecraft = bits_at-below h 2 8;
      channel = bits_at-below h 10 6;
      counter = bits_at-below h 16 24;
      pointer = bits_at-below h 53 11;
    }
