-- What is promised of catalogues, one sentence after the other, as one statement. That it holds is proved (proofs/Promised.antt). The calls are the
-- definitions that their contracts cite (Asking.antt, Entering.antt). Assumes nothing.
use Rattle.std.specs.Prelude.{◌≡◌, true, ◌↔◌, ℕ, ◌≤◌, ◌<◌, length, get_or, take, drop, replicate, Some, None, Ok}
use mathlib.Core.List.{List, [], ◌∷◌, ◌++◌, map, Memᴰ}
use Rattle.octets.specs.Number.{Octets}
use Rattle.octets.specs.Buffer.{put}
use Rattle.octets.specs.Reasons.{decided}
use Rattle.refusals.specs.Refusals.{refuse}
use Rattle.records.specs.Reader.{read_header}
use Rattle.records.specs.declared.Header.{Header}
use Rattle.facts.specs.declared.Facts.{Facts}
use Rattle.sections.specs.Sections.{Row}
use Rattle.catalogue.specs.declared.Entry.{Entry}
use Rattle.catalogue.specs.Catalogue.{file_row, image_rows, channel_of, counted_channels, how_many, files_of, images_of, channels_of, written, Good, Catalogue, accepts, listed}
use Rattle.catalogue.specs.Asking.{catalogue_read, file_entry, image_entry, channel_entry, file_asked, image_asked, channel_asked}
use Rattle.catalogue.specs.Entering.{entry_for, entered, enter_says, gives, file_entered, begun}
use Rattle.catalogue.specs.Answers.{entered_said, read_said, file_said, image_said, channel_said}
use Rattle.catalogue.specs.Night.{Handed, night, all_entered, evening, AllTyped}

-- numbers that rise: each is less than every one behind it
abbrev pub Rise : List ℕ → Type 0
Rise xs = (i j : ℕ) → i < j → j < length xs → get_or xs i 0 < get_or xs j 0

-- the first numbers of some rows: the channels, or the indexes
abbrev pub firsts : List Row → List ℕ
firsts rows = map channel_of rows

-- what every accepted catalogue tells, whoever wrote it
pub record Tells (xs : List ℕ) : Type 0 where
  pub few : length (files_of xs) ≤ 1024
  -- "The channel counts always equal what counting the file section gives."
  pub counts : channels_of xs ≡ counted_channels (files_of xs)
  -- in other words: a channel with a number of files stands there exactly if it has so many, and not none
  pub exactly : (c n : ℕ) → Memᴰ (c ∷ n ∷ []) (channels_of xs) ↔ ((n ≡ how_many c (firsts (files_of xs))) × (1 ≤ n))
  -- "Channels, rising"; "by rising index"; an index is that of a file
  pub channels : Rise (firsts (channels_of xs))
  pub indexes : Rise (firsts (images_of xs))
  pub below : (i : ℕ) → i < length (images_of xs) → get_or (firsts (images_of xs)) i 0 < length (files_of xs)

-- what is asked of the catalogue of a list
pub record Asked (es : List Entry) : Type 0 where
  pub sizes : catalogue_read (written es)
      ≡ Ok (record { files = length es; images = length (image_rows 0 es); channels = length (counted_channels (map file_row es)) })
  pub a-file : (n : ℕ) → n < length es → file_asked (written es) n ≡ Ok (Some (file_entry (get_or (map file_row es) n [])))
  pub no-file : (n : ℕ) → length es ≤ n → file_asked (written es) n ≡ Ok None
  pub an-image : (n : ℕ) → n < length (image_rows 0 es) → image_asked (written es) n ≡ Ok (Some (image_entry (get_or (image_rows 0 es) n [])))
  pub no-image : (n : ℕ) → length (image_rows 0 es) ≤ n → image_asked (written es) n ≡ Ok None
  pub a-channel : (n : ℕ) → n < length (counted_channels (map file_row es))
      → channel_asked (written es) n ≡ Ok (Some (channel_entry (get_or (counted_channels (map file_row es)) n [])))
  pub no-channel : (n : ℕ) → length (counted_channels (map file_row es)) ≤ n → channel_asked (written es) n ≡ Ok None

-- what the answers say of an accepted catalogue, in the paper's numbers: 0, and the numbers of the entry as it is stored
pub record Says (xs : List ℕ) : Type 0 where
  pub sizes : read_said (catalogue_read xs) ≡ 0 ∷ length (files_of xs) ∷ length (images_of xs) ∷ length (channels_of xs) ∷ []
  pub a-file : (n : ℕ) → n < length (files_of xs) → file_said (file_asked xs n) ≡ 0 ∷ get_or (files_of xs) n []
  pub an-image : (n : ℕ) → n < length (images_of xs) → image_said (image_asked xs n) ≡ 0 ∷ get_or (images_of xs) n []
  pub a-channel : (n : ℕ) → n < length (channels_of xs) → channel_said (channel_asked xs n) ≡ 0 ∷ get_or (channels_of xs) n []

-- "otherwise refusal 31"
pub record Refused31 (xs : List ℕ) : Type 0 where
  pub sizes : catalogue_read xs ≡ refuse 31
  pub a-file : (n : ℕ) → file_asked xs n ≡ refuse 31
  pub an-image : (n : ℕ) → image_asked xs n ≡ refuse 31
  pub a-channel : (n : ℕ) → channel_asked xs n ≡ refuse 31

-- facts that a catalogue can have
abbrev pub GoodFacts : Facts → Type 0
GoodFacts f = (f.channel.0 ≤ 62) × (f.application.0 ≤ 2015) × (1 ≤ f.bits)

-- entering a file whose header is read, in the catalogue of es at the front of a buffer
pub record Enters (b : List ℕ) (used : ℕ) (f : Facts) (file : List ℕ) (es : List Entry) : Type 0 where
  -- "At most 1,024 files, then refusal 30"
  pub full : length es ≡ 1024 → file_entered b used f file ≡ gives (refuse 30) b
  pub bad-facts : length es < 1024 → (GoodFacts f → ⊥) → file_entered b used f file ≡ gives (refuse 31) b
  -- "a lent buffer too short for it gives 34 and stays unchanged"
  pub short : length es < 1024 → GoodFacts f → length b < length (written (es ++ (entry_for f file ∷ [])))
      → file_entered b used f file ≡ gives (refuse 34) b
  -- else the catalogue of es with one entry more at its end
  pub done : length es < 1024 → GoodFacts f → length (written (es ++ (entry_for f file ∷ []))) ≤ length b
      → file_entered b used f file
      ≡ gives (Ok (length (written (es ++ (entry_for f file ∷ []))))) (put b 0 (written (es ++ (entry_for f file ∷ []))))

-- every call that enters, whatever it is handed
pub record Entering (b : List ℕ) (used : ℕ) (f : Facts) (file : List ℕ) : Type 0 where
  -- "A file whose header is refused is not entered and its number is returned."
  pub refused : (n : ℕ) → read_header file ≡ refuse n → file_entered b used f file ≡ gives (refuse n) b
  pub none : (h : Header) → read_header file ≡ Ok h → ((used ≤ length b) × Catalogue (take used b) → ⊥)
      → file_entered b used f file ≡ gives (refuse 31) b
  pub some : (h : Header) → read_header file ≡ Ok h → used ≤ length b → (es : List Entry) → Good es → take used b ≡ written es
      → Enters b used f file es

-- an empty catalogue
pub record Begins (b : List ℕ) : Type 0 where
  pub short : length b < 6 → begun b ≡ gives (refuse 34) b
  pub done : 6 ≤ length b → begun b ≡ gives (Ok 6) (put b 0 (replicate 6 0))

-- what is kept at the end of a night that began with an empty catalogue
pub record Night (b : List ℕ) (hs : List Handed) : Type 0 where
  pub good : Good (all_entered (evening b) hs)
  pub within : (night (evening b) hs).used ≤ length (night (evening b) hs).buffer
  pub same-buffer : length (night (evening b) hs).buffer ≡ length b
  pub is : take (night (evening b) hs).used (night (evening b) hs).buffer ≡ written (all_entered (evening b) hs)

pub record Promises : Type 0 where
  -- "A stored catalogue is accepted exactly if it is what the writer writes for some list of files and image facts .."
  pub exactly : (xs : List ℕ) → Octets xs → (accepts xs ≡ true) ↔ Catalogue xs
  -- two lists with the same octets are the same list, and reading gives it back: nothing is hidden, nothing is said in two ways
  pub one_list : (es ds : List Entry) → Good es → Good ds → written es ≡ written ds → es ≡ ds
  pub listed_back : (es : List Entry) → Good es → listed (written es) ≡ es
  pub tells : (xs : List ℕ) → Octets xs → accepts xs ≡ true → Tells xs
  pub asked : (es : List Entry) → Good es → Asked es
  pub says : (xs : List ℕ) → accepts xs ≡ true → Says xs
  pub not-asked : (xs : List ℕ) → Octets xs → (Catalogue xs → ⊥) → Refused31 xs
  pub begins : (b : List ℕ) → Begins b
  pub enters : (b : List ℕ) → Octets b → (used : ℕ) (f : Facts) (file : List ℕ) → Entering b used f file
  -- what entering says: the first number of 20 to 26, 30, 31, 34 that applies, or 0 and the octets that the catalogue has now
  pub entering-says : (b : List ℕ) (used : ℕ) (f : Facts) (file : List ℕ)
      → entered_said (file_entered b used f file).answer
      ≡ decided (enter_says b used f file) (0 ∷ length (entered (take used b) (entry_for f file)) ∷ []) (λ (n : ℕ). n ∷ [])
  -- a buffer of 22,723 octets is never too short
  pub longest : (es : List Entry) → length es ≤ 1024 → length (written es) ≤ 22723
  pub never-34 : (b : List ℕ) → Octets b → 22723 ≤ length b → (used : ℕ) (f : Facts) (file : List ℕ) → (file_entered b used f file).answer ≡ refuse 34 → ⊥
  -- the octets behind the catalogue stay
  pub behind : (b : List ℕ) (used : ℕ) (f : Facts) (file : List ℕ) (n : ℕ) → (file_entered b used f file).answer ≡ Ok n
      → drop n (file_entered b used f file).buffer ≡ drop n b
  -- "in order of completion": after any calls, refused ones too, the catalogue of the files entered, in order of entering
  pub nights : (b : List ℕ) → 6 ≤ length b → (hs : List Handed) → AllTyped hs → Night b hs
