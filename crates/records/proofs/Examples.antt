-- Headers that are accepted, so that no theorem about accepted ones is empty, and headers on both sides of each refusal. Assumes nothing.
use Rattle.std.specs.Prelude.{Result, Some, None, Ok}
use mathlib.Core.Path.{◌≡◌, refl}
use mathlib.Core.Bool.{true}
use mathlib.Core.List.{List, [], ◌∷◌, ◌++◌}
use Prim.Native.Nat.{ℕ}
use lib.Dec.{eqb}
use lib.ListN.{replicate}
use Rattle.octets.specs.Each.{each}
use Rattle.octets.specs.Number.{number, number_at, rounded_up}
use Rattle.records.specs.Table.{fixed_types, length_of}
use Rattle.records.specs.Records.{record_at, is_cut, after, records_from, records, seen_in, records_say, header_says, nth, place_of}
use Rattle.records.specs.Reader.{primary_of, image_at, segment_at, image_of, navigation_of, time_of, segment_of, fields_of, read_header, read_record, header_number}
use Rattle.records.specs.Together.{Accepted}
use Rattle.records.specs.declared.Header.{Header}
use Rattle.refusals.specs.declared.Refusal.{Refusal}
use Rattle.refusals.specs.Refusals.{refuse}

-- sixteen octets: a type and a length, and a header length and data field bits that each fill one octet
abbrev opening : ℕ → ℕ → ℕ → ℕ → List ℕ
opening kind size end bits = kind ∷ 0 ∷ size ∷ 0 ∷ 0 ∷ 0 ∷ 0 ∷ end ∷ 0 ∷ 0 ∷ 0 ∷ 0 ∷ 0 ∷ 0 ∷ 0 ∷ bits ∷ []

-- the primary record alone, and one of an image with a segment and 12 bits of data
abbrev alone : List ℕ
alone = opening 0 16 16 0

abbrev picture : List ℕ
picture = opening 0 16 32 12 ++ (1 ∷ 0 ∷ 9 ∷ 8 ∷ 2 ∷ 3 ∷ 0 ∷ 4 ∷ 0 ∷ []) ++ (128 ∷ 0 ∷ 7 ∷ 1 ∷ 2 ∷ 0 ∷ 5 ∷ []) ++ (170 ∷ 176 ∷ [])

pub accepted-alone : Accepted fixed_types alone
unfolding header_says records records_from record_at is_cut after records_say seen_in rounded_up length_of number_at number
accepted-alone = refl

pub accepted-picture : Accepted fixed_types picture
unfolding header_says records records_from record_at is_cut after records_say seen_in rounded_up length_of number_at number
accepted-picture = refl

-- what the reader gives of the second
pub picture-read : ◌≡◌ {A = Result Header Refusal} (read_header picture)
    (Ok
    (record {
      primary = record { filetype = 0; length = 32; bits = 12 };
      image = Some (record { bits = 8; columns = 515; lines = 4; compression = 0 });
      navigation = None;
      time = None;
      segment = Some (record { number = 1; total = 2; line = 5 });
    }))
unfolding header_says records records_from record_at is_cut after records_say seen_in rounded_up length_of number_at number place_of primary_of image_at segment_at image_of navigation_of time_of segment_of fields_of read_header
picture-read = refl

pub picture-last : read_record picture 2 ≡ Ok (record { kind = 128; place = 25; length = 7 })
unfolding header_says records records_from record_at is_cut after records_say seen_in rounded_up length_of number_at number nth read_record
picture-last = refl

pub picture-none : read_record picture 3 ≡ refuse 27
unfolding header_says records records_from record_at is_cut after records_say seen_in rounded_up length_of number_at number nth read_record
picture-none = refl

-- a text file that is all header, with nothing but its primary record
pub alone-read : ◌≡◌ {A = Result Header Refusal} (read_header (0 ∷ 0 ∷ 16 ∷ 2 ∷ 0 ∷ 0 ∷ 0 ∷ 16 ∷ replicate 8 0))
    (Ok
    (record {
      primary = record { filetype = 2; length = 16; bits = 0 };
      image = None;
      navigation = None;
      time = None;
      segment = None;
    }))
unfolding header_says records records_from record_at is_cut after records_say seen_in rounded_up length_of number_at number place_of primary_of image_at segment_at image_of navigation_of time_of segment_of fields_of read_header
alone-read = refl

-- a file of one octet
pub one-octet : (x : ℕ) → read_header (x ∷ []) ≡ refuse 20
unfolding header_says read_header
one-octet x = refl

-- a header, with the number that answers it
pub record Case : Type 0 where
  pub file : List ℕ
  pub answer : ℕ

infix 4 ◌gives◌
abbrev ◌gives◌ : List ℕ → ℕ → Case
file gives n = record { file = file; answer = n }

abbrev pub cases : List Case
cases =
    (replicate 15 0 gives 20)
    ∷ (opening 1 16 16 0 gives 21)
    ∷ (opening 0 17 16 0 gives 21)
    ∷ (opening 0 16 15 0 gives 22)
    ∷ (opening 0 16 17 0 gives 22)
    -- a record of 2 octets, of 3, and one that passes the end by one octet; 2 octets left
    ∷ (opening 0 16 19 0 ++ (3 ∷ 0 ∷ 2 ∷ []) gives 23)
    ∷ (opening 0 16 19 0 ++ (3 ∷ 0 ∷ 3 ∷ []) gives 0)
    ∷ (opening 0 16 19 0 ++ (3 ∷ 0 ∷ 4 ∷ []) gives 23)
    ∷ (opening 0 16 18 0 ++ (3 ∷ 0 ∷ []) gives 23)
    ∷ (opening 0 16 19 0 ++ (1 ∷ 0 ∷ 3 ∷ []) gives 24)
    -- a second type 0, with its length and with another
    ∷ (opening 0 16 32 0 ++ opening 0 16 0 0 gives 25)
    ∷ (opening 0 16 19 0 ++ (0 ∷ 0 ∷ 3 ∷ []) gives 24)
    -- record by record: 25 of the second comes before 23 of the third
    ∷ (opening 0 16 35 0 ++ opening 0 16 0 0 ++ (3 ∷ 0 ∷ 4 ∷ []) gives 25)
    -- the data field: 1, 8 and 9 bits in one octet
    ∷ (opening 0 16 16 1 ++ (0 ∷ []) gives 0)
    ∷ (opening 0 16 16 8 ++ (0 ∷ []) gives 0)
    ∷ (opening 0 16 16 9 ++ (0 ∷ []) gives 26)
    ∷ (opening 0 16 16 0 ++ (0 ∷ []) gives 26)
    ∷ []

pub answered-right : each (λ (c : Case). eqb (header_number (read_header c.file)) c.answer) cases ≡ true
unfolding header_says records records_from record_at is_cut after records_say seen_in rounded_up length_of number_at number place_of primary_of image_at segment_at image_of navigation_of time_of segment_of fields_of read_header each
answered-right = refl
