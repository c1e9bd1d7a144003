-- Every wild case is right, by computation. Assumes nothing.
use mathlib.Core.Path.{refl}
use Rattle.octets.specs.Each.{each}
use Rattle.state.specs.Slots.{held, complete, incomplete}
use Rattle.state.specs.Blocks.{numbers_of}
use Rattle.state.specs.Decision.{among, distinct_channels, good_channels, set_up_sound, slot_sound, block_counts, slots_sound, twin_in, no_twins, desk_holds, is_sound}
use Rattle.station.specs.SetUp.{fresh_station}
use Rattle.station.specs.Files.{asked, let_go_as, file_let_go, read_out}
use Rattle.station.specs.Wild.{cases, Every}

pub wild : Every cases
unfolding cases fresh_station each held complete incomplete numbers_of among distinct_channels good_channels set_up_sound slot_sound block_counts slots_sound
    twin_in no_twins desk_holds is_sound asked let_go_as file_let_go read_out
wild = (λ store k offset buffer. refl, (refl, (λ store k offset buffer. refl, (refl, (refl, (refl, (refl, (refl, (refl, (refl, (refl, (refl, (refl, (refl, (refl, tt)))))))))))))))
