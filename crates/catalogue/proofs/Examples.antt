-- Small catalogues, computed: what is written for a list of two, and octets on both sides of each bound. Assumes nothing.
use Rattle.std.specs.Prelude.{Some, None}
use mathlib.Core.Path.{◌≡◌, refl}
use mathlib.Core.Bool.{true, false}
use mathlib.Core.List.{List, [], ◌∷◌, ◌++◌}
use Prim.Native.Nat.{ℕ}
use lib.ListN.{set}
use Rattle.octets.specs.Each.{each}
use Rattle.octets.specs.Number.{number, number_at, in_octets}
use Rattle.facts.specs.declared.Facts.{Facts}
use Rattle.records.specs.Records.{records, records_from, record_at, is_cut, after, place_of}
use Rattle.records.specs.Reader.{primary_of, image_at, segment_at, image_of, segment_of}
use Rattle.sections.specs.Sections.{rows, section, sections, entries, extent, section_of, whole}
use Rattle.catalogue.specs.declared.Entry.{Entry}
use Rattle.catalogue.specs.Entering.{entry_for}
use Rattle.catalogue.specs.Catalogue.{image_rows, how_many, channel_rows, written, rising, same_row, same_rows, good_tables, accepts}

abbrev bulletin : Entry
bulletin =
    record { facts = record { channel = record { 0 = 2 }; application = record { 0 = 64 }; counter = 7; bits = 12 }; kind = 2; image = None }

abbrev picture : Entry
picture =
    record {
      facts = record { channel = record { 0 = 0 }; application = record { 0 = 5 }; counter = 258; bits = 65536 };
      kind = 0;
      image = Some (record { columns = 2200; lines = 220; number = 3; total = 10 });
    }

-- the octets of both, a line an entry
abbrev two : List ℕ
two =
    0 ∷ 2
    ∷ 2 ∷ 0 ∷ 64 ∷ 0 ∷ 7 ∷ 0 ∷ 0 ∷ 0 ∷ 0 ∷ 0 ∷ 0 ∷ 0 ∷ 12 ∷ 2
    ∷ 0 ∷ 0 ∷ 5 ∷ 1 ∷ 2 ∷ 0 ∷ 0 ∷ 0 ∷ 0 ∷ 0 ∷ 1 ∷ 0 ∷ 0 ∷ 0
    ∷ 0 ∷ 1
    ∷ 0 ∷ 1 ∷ 8 ∷ 152 ∷ 0 ∷ 220 ∷ 3 ∷ 10
    ∷ 0 ∷ 2
    ∷ 0 ∷ 0 ∷ 1
    ∷ 2 ∷ 0 ∷ 1
    ∷ []

two-written : written (bulletin ∷ picture ∷ []) ≡ two
unfolding written sections section in_octets rows image_rows channel_rows how_many
two-written = refl

-- both in another order: the index goes with the file, the channels rise as before
turned : written (picture ∷ bulletin ∷ [])
    ≡ 0 ∷ 2
    ∷ 0 ∷ 0 ∷ 5 ∷ 1 ∷ 2 ∷ 0 ∷ 0 ∷ 0 ∷ 0 ∷ 0 ∷ 1 ∷ 0 ∷ 0 ∷ 0
    ∷ 2 ∷ 0 ∷ 64 ∷ 0 ∷ 7 ∷ 0 ∷ 0 ∷ 0 ∷ 0 ∷ 0 ∷ 0 ∷ 0 ∷ 12 ∷ 2
    ∷ 0 ∷ 1
    ∷ 0 ∷ 0 ∷ 8 ∷ 152 ∷ 0 ∷ 220 ∷ 3 ∷ 10
    ∷ 0 ∷ 2
    ∷ 0 ∷ 0 ∷ 1
    ∷ 2 ∷ 0 ∷ 1
    ∷ []
unfolding written sections section in_octets rows image_rows channel_rows how_many
turned = refl

-- as it is
as-it-is : accepts two ≡ true
unfolding accepts whole good_tables section_of entries extent number_at number rising same_row same_rows channel_rows how_many each
as-it-is = refl

-- the bulletin's application 2015, and 2016
application-2015 : accepts (set (set two 3 7) 4 223) ≡ true
unfolding accepts whole good_tables section_of entries extent number_at number rising same_row same_rows channel_rows how_many each
application-2015 = refl

application-2016 : accepts (set (set two 3 7) 4 224) ≡ false
unfolding accepts whole good_tables section_of entries extent number_at number rising same_row same_rows channel_rows how_many each
application-2016 = refl

-- its L 1, and 0
bits-1 : accepts (set two 14 1) ≡ true
unfolding accepts whole good_tables section_of entries extent number_at number rising same_row same_rows channel_rows how_many each
bits-1 = refl

bits-0 : accepts (set two 14 0) ≡ false
unfolding accepts whole good_tables section_of entries extent number_at number rising same_row same_rows channel_rows how_many each
bits-0 = refl

-- its channel 62, and 63, with the channel section alike; and 62 with the channel section as it was
channel-62 : accepts (set (set two 2 62) 45 62) ≡ true
unfolding accepts whole good_tables section_of entries extent number_at number rising same_row same_rows channel_rows how_many each
channel-62 = refl

channel-63 : accepts (set (set two 2 63) 45 63) ≡ false
unfolding accepts whole good_tables section_of entries extent number_at number rising same_row same_rows channel_rows how_many each
channel-63 = refl

channel-alone : accepts (set two 2 62) ≡ false
unfolding accepts whole good_tables section_of entries extent number_at number rising same_row same_rows channel_rows how_many each
channel-alone = refl

-- the image is one of the first file, and of a third that is not there
index-0 : accepts (set two 33 0) ≡ true
unfolding accepts whole good_tables section_of entries extent number_at number rising same_row same_rows channel_rows how_many each
index-0 = refl

index-2 : accepts (set two 33 2) ≡ false
unfolding accepts whole good_tables section_of entries extent number_at number rising same_row same_rows channel_rows how_many each
index-2 = refl

-- a channel's count that lies, a channel with no files more, the channels turned round
count-lies : accepts (set two 44 2) ≡ false
unfolding accepts whole good_tables section_of entries extent number_at number rising same_row same_rows channel_rows how_many each
count-lies = refl

count-0 : accepts (set two 41 3 ++ (5 ∷ 0 ∷ 0 ∷ [])) ≡ false
unfolding accepts whole good_tables section_of entries extent number_at number rising same_row same_rows channel_rows how_many each
count-0 = refl

channels-turned : accepts (set (set two 42 2) 45 0) ≡ false
unfolding accepts whole good_tables section_of entries extent number_at number rising same_row same_rows channel_rows how_many each
channels-turned = refl

-- an octet behind, and no octet at all
trailing : accepts (two ++ (0 ∷ [])) ≡ false
unfolding accepts whole good_tables section_of entries extent number_at number rising same_row same_rows channel_rows how_many each
trailing = refl

nothing : accepts [] ≡ false
unfolding accepts whole good_tables section_of entries extent number_at number rising same_row same_rows channel_rows how_many each
nothing = refl

-- the headers of three files, with no data behind them: an image structure record of 2,200 columns and 220 lines; the same with a segment record, number 3
-- of 10; and a segment record alone
abbrev image_alone : List ℕ
image_alone = 0 ∷ 0 ∷ 16 ∷ 0 ∷ 0 ∷ 0 ∷ 0 ∷ 25 ∷ 0 ∷ 0 ∷ 0 ∷ 0 ∷ 0 ∷ 0 ∷ 0 ∷ 0 ∷ 1 ∷ 0 ∷ 9 ∷ 8 ∷ 8 ∷ 152 ∷ 0 ∷ 220 ∷ 0 ∷ []

abbrev segment : List ℕ
segment = 128 ∷ 0 ∷ 7 ∷ 3 ∷ 10 ∷ 0 ∷ 1 ∷ []

abbrev both : List ℕ
both = set image_alone 7 32 ++ segment

abbrev segment_alone : List ℕ
segment_alone = 0 ∷ 0 ∷ 16 ∷ 2 ∷ 0 ∷ 0 ∷ 0 ∷ 23 ∷ 0 ∷ 0 ∷ 0 ∷ 0 ∷ 0 ∷ 0 ∷ 0 ∷ 0 ∷ segment

abbrev facts : Facts
facts = picture.facts

zeros-without-segment : entry_for facts image_alone
    ≡ record { facts = facts; kind = 0; image = Some (record { columns = 2200; lines = 220; number = 0; total = 0 }) }
unfolding entry_for records records_from record_at is_cut after number_at number place_of primary_of image_at segment_at image_of segment_of
zeros-without-segment = refl

with-segment : entry_for facts both ≡ picture
unfolding entry_for records records_from record_at is_cut after number_at number place_of primary_of image_at segment_at image_of segment_of
with-segment = refl

no-image : entry_for facts segment_alone ≡ record { facts = facts; kind = 2; image = None }
unfolding entry_for records records_from record_at is_cut after number_at number place_of primary_of image_at segment_at image_of segment_of
no-image = refl
