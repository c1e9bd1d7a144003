-- `know` meets its contract: the counter is read from the first two octets of the file's blocks. Assumes nothing.
use mathlib.Core.Path.{◌≡◌}
use mathlib.Core.List.{List}
use Prim.Native.Nat.{ℕ, ◌+◌}
use native.Mathlib.Numerals.{add-one}
use native.Mathlib.Omega.{arith}
use borrow.Author.Rules.{rules}
use Rattle.octets.specs.Number.{part, number_at}
use Rattle.octets.proofs.Lists.{unmap}
use Rattle.state.specs.declared.Station.{Station}
use Rattle.state.specs.Slots.{slot_at}
use Rattle.state.specs.Blocks.{numbers_of, table, blocks_of}
use Rattle.state.specs.Sound.{Sized}
use Rattle.room.specs.File.{joined}
use Rattle.station.specs.Files.{counter_in, facts_in}
use Rattle.station.proofs.Asking.{sound-store}
use Rattle.station.proofs.Counters.{counter-two}
use Rattle.files.proofs.Holding.{fits-store, file-room}
use Rattle.files.proofs.know.Goals as goal

module _ (s : Station) (store : List ℕ) (k : ℕ) where
  counted : {two : List ℕ} {n : ℕ} → n ≡ number_at two 0 2 → two ≡ part 0 2 (joined store (numbers_of (k + 1) 0 (table s)))
      → n ≡ counter_in s store k
  unfolding counter_in
  counted e f = rw (e, f, add-one k) (counter-two (joined store (blocks_of s k)))

  known : {n : ℕ} → n ≡ counter_in s store k
      → record { channel = (slot_at s k).channel; application = (slot_at s k).application; counter = n; bits = (slot_at s k).bits }
      ≡ facts_in s store k
  unfolding facts_in
  known e = rw e

pub copy_out-requires : goal.copy_out-requires
copy_out-requires c =
    let s = c.args.s in
    let z : Sized s =
    record {
      watched = search (rules, unmap);
      desks = search (rules, unmap);
      owner = search rules;
      slots = search (rules, unmap);
    } in
    let few = sound-store s c.requires.fits_and_sound.1 in
    let room = file-room z c.requires.fits_and_sound.1 c.requires.k_complete.0 c.requires.k_complete.1 in
    record {
      n_in_bounds = (omega (arith, z.owner), fits-store s.blocks c.args.store.now c.requires.fits_and_sound.0);
      buffer_bound = rw add-one (omega arith);
    }

pub returns : goal.returns
returns c =
    known _ _ _ (counted _ _ _ c.u16_at.ensures c.copy_out.ensures)
