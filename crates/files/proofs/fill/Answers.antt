-- `fill` meets its contract: a part of the file is a part of its blocks one after the other, ten octets further on. Assumes nothing.
use Rattle.std.specs.Prelude.{Ok}
use mathlib.Core.Path.{◌≡◌, sym, ap}
use mathlib.Core.List.{List}
use Prim.Native.Nat.{ℕ, ◌+◌, ◌-◌, ◌≤◌, ◌<◌}
use native.Mathlib.Numerals.{add-one}
use native.Mathlib.Omega.{arith}
use borrow.Author.Rules.{rules}
use borrow.Author.Tests.{le-leb, lt-leb}
use lib.ListN.{length}
use Rattle.octets.specs.Number.{part}
use Rattle.octets.proofs.Lists.{unmap, part-part}
use Rattle.transport.specs.Length.{octets_of_bits}
use Rattle.state.specs.declared.Station.{Station}
use Rattle.state.specs.Slots.{slot_at}
use Rattle.state.specs.Blocks.{numbers_of, table, blocks_of}
use Rattle.state.specs.Sound.{Sized}
use Rattle.room.specs.File.{joined, file_octets}
use Rattle.station.specs.Files.{read_gives, read_as}
use Rattle.station.specs.declared.Held.TheVariants.{Complete}
use Rattle.station.proofs.Asking.{sound-store}
use Rattle.files.proofs.Holding.{fits-store, file-room}
use Rattle.files.proofs.fill.Goals as goal

module _ (s : Station) (store : List ℕ) (k offset : ℕ) (buffer : List ℕ) where
  past-size : octets_of_bits (slot_at s k).bits < offset → read_gives 14 buffer ≡ read_as s store offset buffer (Ok (Complete k))
  unfolding read_as
  past-size h = rw (lt-leb _ _ h)

  module _ (start : offset ≤ octets_of_bits (slot_at s k).bits) where
    past_end : octets_of_bits (slot_at s k).bits - offset < length buffer → read_gives 14 buffer ≡ read_as s store offset buffer (Ok (Complete k))
    unfolding read_as
    past_end h = rw (le-leb _ _ start, lt-leb _ _ h)

    -- "the ten transport octets don't count"
    inside : {out : List ℕ} → length buffer ≤ octets_of_bits (slot_at s k).bits - offset
        → out ≡ part (offset + 10) (length buffer) (joined store (numbers_of (k + 1) 0 (table s)))
        → read_gives 0 out ≡ read_as s store offset buffer (Ok (Complete k))
    unfolding read_as file_octets
    inside h e =
        let size = octets_of_bits (slot_at s k).bits in
        let ten : 10 + offset ≡ offset + 10 = omega arith in
        rw (le-leb _ _ start, le-leb _ _ h, e, add-one k, ← ten)
        (ap (read_gives 0) (sym (part-part (joined store (blocks_of s k)) 10 size offset (length buffer) (omega arith))))

pub returns-then-offset-size : goal.returns-then-offset-size
returns-then-offset-size c = record { numbered = omega arith; outcome = past-size _ _ _ _ _ (omega arith) }

pub returns-then-buffer-size : goal.returns-then-buffer-size
returns-then-buffer-size c = record { numbered = omega arith; outcome = past_end _ _ _ _ _ (omega arith) (omega arith) }

pub copy_out-requires : goal.copy_out-requires
copy_out-requires c =
    let s = c.args.s in
    let z : Sized s =
    record {
      watched = search (rules, unmap);
      desks = search (rules, unmap);
      owner = search rules;
      slots = search (rules, unmap);
    } in
    let few = sound-store s c.requires.fits_and_sound.1 in
    let room = file-room z c.requires.fits_and_sound.1 c.requires.k_complete.0 c.requires.k_complete.1 in
    record {
      n_in_bounds = (omega (arith, z.owner), fits-store s.blocks c.args.store.now c.requires.fits_and_sound.0);
      buffer_bound = rw add-one (omega arith);
    }

pub returns : goal.returns
returns c = record { numbered = tt; outcome = inside _ _ _ _ _ (omega arith) (omega arith) c.copy_out.ensures }
