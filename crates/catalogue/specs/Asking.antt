-- Questions to a catalogue: how many entries each section has, and an entry by its number, from 0. Assumes nothing.
use Rattle.std.specs.Prelude.{List, [], ℕ, ltb, length, get_or, if◌then◌else◌, Option, Some, None, Result, Ok}
use Rattle.refusals.specs.declared.Refusal.{Refusal}
use Rattle.refusals.specs.Refusals.{refuse}
use Rattle.sections.specs.Sections.{Row}
use Rattle.catalogue.specs.declared.FileEntry.{FileEntry}
use Rattle.catalogue.specs.declared.ImageEntry.{ImageEntry}
use Rattle.catalogue.specs.declared.ChannelEntry.{ChannelEntry}
use Rattle.catalogue.specs.declared.Sizes.{Sizes}
use Rattle.catalogue.specs.Catalogue.{accepts, files_of, images_of, channels_of, facts_of, picture_of}

-- "otherwise refusal 31"
unfoldable pub catalogue_read : List ℕ → Result Sizes Refusal
catalogue_read xs =
    if accepts xs
    then Ok (record { files = length (files_of xs); images = length (images_of xs); channels = length (channels_of xs) })
    else refuse 31

-- a row of each section, as an entry
abbrev pub file_entry : Row → FileEntry
file_entry r = record { facts = facts_of r; kind = get_or r 4 0 }

abbrev pub image_entry : Row → ImageEntry
image_entry r = record { index = get_or r 0 0; picture = picture_of r }

abbrev pub channel_entry : Row → ChannelEntry
channel_entry r = record { channel = record { 0 = get_or r 0 0 }; files = get_or r 1 0 }

-- entry n of some rows: what is there, or nothing; and 31 where the octets are no catalogue
abbrev pub asked : {A : Type 0} → A → A → (Row → A) → List ℕ → List Row → ℕ → A
asked refused nothing there xs rows n =
    if accepts xs then (if ltb n (length rows) then there (get_or rows n []) else nothing) else refused

unfoldable pub file_asked : List ℕ → ℕ → Result (Option FileEntry) Refusal
file_asked xs n = asked (refuse 31) (Ok None) (λ (r : Row). Ok (Some (file_entry r))) xs (files_of xs) n

unfoldable pub image_asked : List ℕ → ℕ → Result (Option ImageEntry) Refusal
image_asked xs n = asked (refuse 31) (Ok None) (λ (r : Row). Ok (Some (image_entry r))) xs (images_of xs) n

unfoldable pub channel_asked : List ℕ → ℕ → Result (Option ChannelEntry) Refusal
channel_asked xs n = asked (refuse 31) (Ok None) (λ (r : Row). Ok (Some (channel_entry r))) xs (channels_of xs) n
