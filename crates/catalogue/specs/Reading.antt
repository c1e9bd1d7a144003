-- How the sections are got at: their places, and the counts of the channels in one pass. Means, all of it. Assumes nothing.
use Rattle.std.specs.Prelude.{◌≡◌, true, List, [], ◌∷◌, ◌++◌, map, ℕ, ◌+◌, ◌*◌, ◌≤◌, ◌<◌, length, get_or, set, take, replicate, if◌then◌else◌, Option, Some, None}
use Rattle.octets.specs.Number.{number_at}
use Rattle.catalogue.specs.declared.Places.{Places}
use Rattle.catalogue.specs.declared.Entry.{Entry}
use Rattle.catalogue.specs.Catalogue.{file_row, channel_of, good_file, accepts, files_of}

-- some counts, and one more for each of some channels
unfoldable pub tallied : List ℕ → List ℕ → List ℕ
tallied cs [] = cs
tallied cs (c ∷ xs) = tallied (set cs c (get_or cs c 0 + 1)) xs

-- where the sections begin, and how many entries each claims
abbrev pub second_of : List ℕ → ℕ
second_of xs = 2 + number_at xs 0 2 * 14

abbrev pub third_of : List ℕ → ℕ
third_of xs = second_of xs + (2 + number_at xs (second_of xs) 2 * 8)

abbrev pub places_of : List ℕ → Places
places_of xs =
    record {
      files = number_at xs 0 2;
      second = second_of xs;
      images = number_at xs (second_of xs) 2;
      third = third_of xs;
      channels = number_at xs (third_of xs) 2;
    }

-- what is found in octets that are lent
unfoldable pub found_in : List ℕ → Option Places
found_in xs = if accepts xs then Some (places_of xs) else None

-- the places of the sections of some octets that are three sections
pub record Lies (xs : List ℕ) (r : Places) : Type 0 where
  pub files : r.files ≡ number_at xs 0 2
  pub second : r.second ≡ 2 + r.files * 14
  pub images : r.images ≡ number_at xs r.second 2
  pub third : r.third ≡ r.second + (2 + r.images * 8)
  pub channels : r.channels ≡ number_at xs r.third 2
  pub ends : r.third + (2 + r.channels * 3) ≡ length xs

-- what is known before the first octet of a file's entry is written
pub record Ready (b : List ℕ) (used : ℕ) (at : Places) (e : Entry) (counts : List ℕ) : Type 0 where
  pub catalogue : accepts (take used b) ≡ true
  pub lies : Lies (take used b) at
  pub within : used ≤ length b
  pub good : good_file (file_row e) ≡ true
  pub few : at.files < 1024
  pub counted : counts ≡ tallied (replicate 63 0) (map channel_of (files_of (take used b) ++ (file_row e ∷ [])))
