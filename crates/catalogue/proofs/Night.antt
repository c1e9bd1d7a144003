-- What entering does to the catalogue of a list, and a whole night. Assumes nothing.
use Rattle.std.specs.Prelude.{Option, Some, None, Result, Ok, Err}
use mathlib.Core.Path.{◌≡◌, refl, sym, ap, ap₂, ◌∙◌, subst}
use mathlib.Core.Bool.{Bool, true, false, not, ◌&&◌, and-false, false≢true}
use mathlib.Core.List.{List, [], ◌∷◌, ◌++◌, append-nil, append_assoc}
use Prim.Native.Nat.{ℕ, ◌+◌, ◌<◌, ◌≤◌}
use native.Mathlib.Omega.{arith}
use borrow.Author.Tests.{leb-true, le-leb, lt-ltb, le-ltb, ltb-false, eq-eqb, ne_eqb, not-false}
use lib.Dec.{leb, eqb}
use lib.ListN.{length, take, drop, length-append, length-map}
use lib.Seq.{take_at}
use Rattle.octets.specs.Number.{Octets}
use Rattle.octets.specs.Buffer.{put}
use Rattle.octets.specs.Reasons.{decided}
use Rattle.octets.proofs.Numbers.{octets-take, number_at-below}
use Rattle.octets.proofs.Put.{put-parts, length-put}
use Rattle.octets.proofs.Reasons.{First, NoneApplies, decided-cases, first-decided, none-decided, decided-append, none-append}
use Rattle.octets.proofs.Reasons.First.{here, later}
use Rattle.octets.proofs.Tests.{and_left, and_right, and_both}
use Rattle.refusals.specs.declared.Refusal.{Refusal}
use Rattle.refusals.specs.Refusals.{refuse}
use Rattle.records.specs.Table.{fixed_types, header_length}
use Rattle.records.specs.Records.{field_of, header_of, header_says, records, place_of}
use Rattle.records.specs.Reader.{read_header, fields_of, primary_of, image_at, image_of, segment_at, segment_of, if_there}
use Rattle.records.specs.declared.Header.{Header}
use Rattle.facts.specs.declared.Facts.{Facts}
use Rattle.catalogue.specs.declared.Entry.{Entry}
use Rattle.catalogue.specs.Catalogue.{file_row, written, Good, GoodImage, GoodEntry, AllGood, good_file, accepts, files_of, list_of, listed}
use Rattle.catalogue.specs.Entering.{image_facts, entry_for, entered, held, entry_says, Outcome, gives, entry_entered, file_entered}
use Rattle.catalogue.specs.Night.{Kept, Handed, kept_by, outcome, after, night, entered_by, all_entered, Typed, AllTyped}
use Rattle.catalogue.specs.Promises.{GoodFacts}
use Rattle.catalogue.proofs.Lists.{list-rows}
use Rattle.catalogue.proofs.Exact.{files-read, images-read, written-accepted}

-- the list that is written is the list that is read
pub listed-written : {es : List Entry} → Good es → listed (written es) ≡ es
unfolding listed
listed-written {es} g = ap₂ (list_of 0) (files-read g) (images-read g) ∙ list-rows 0 es

-- the catalogue of es and one entry more are the catalogue of es with that entry at its end
pub entered-written : {es : List Entry} → Good es → (e : Entry) → entered (written es) e ≡ written (es ++ (e ∷ []))
unfolding entered
entered-written g e = ap (λ (ds : List Entry). written (ds ++ (e ∷ []))) (listed-written g)

-- a header that is refused, and one that is read
abbrev is_read : Result Header Refusal → Bool
is_read (Err n) = false
is_read (Ok h) = true

abbrev number_of : Result Header Refusal → ℕ
number_of (Err n) = n.0
number_of (Ok h) = 0

pub header_refused : (file : List ℕ) (n : ℕ) → read_header file ≡ refuse n → First (header_says fixed_types file) n
unfolding read_header fields_of
header_refused file n =
    decided-cases (λ (a : Result Header Refusal). a ≡ refuse n → First (header_says fixed_types file) n) (header_says fixed_types file)
    (λ none e. absurd (false≢true (sym (ap is_read e))))
    (λ m first e. subst (First (header_says fixed_types file)) (ap number_of e) first)

pub header_read : (file : List ℕ) (h : Header) → read_header file ≡ Ok h → NoneApplies (header_says fixed_types file)
unfolding read_header
header_read file h =
    decided-cases (λ (a : Result Header Refusal). a ≡ Ok h → NoneApplies (header_says fixed_types file)) (header_says fixed_types file)
    (λ none e. none)
    (λ m first e. absurd (false≢true (ap is_read e)))

-- the call, by its header
module _ (b : List ℕ) (used : ℕ) (f : Facts) (file : List ℕ) where
  abbrev X : List ℕ
  X = entered (take used b) (entry_for f file)

  abbrev done : Outcome
  done = gives (Ok (length X)) (put b 0 X)

  abbrev refusing : ℕ → Outcome
  refusing n = gives (refuse n) b

  pub refused-header : {n : ℕ} → First (header_says fixed_types file) n → file_entered b used f file ≡ gives (refuse n) b
  unfolding file_entered
  refused-header first =
      decided-append done refusing (header_says fixed_types file) (entry_says b used (entry_for f file))
      ∙ first-decided (decided (entry_says b used (entry_for f file)) done refusing) refusing first

  pub read-header : NoneApplies (header_says fixed_types file) → file_entered b used f file ≡ entry_entered b used (entry_for f file)
  unfolding file_entered entry_entered
  read-header none =
      decided-append done refusing (header_says fixed_types file) (entry_says b used (entry_for f file))
      ∙ none-decided (decided (entry_says b used (entry_for f file)) done refusing) refusing (header_says fixed_types file) none

-- facts that a catalogue can have
pub facts-good : (e : Entry) → GoodFacts e.facts → good_file (file_row e) ≡ true
facts-good e h =
    and_both (and_both (le-leb e.facts.channel.0 62 h.0) (le-leb e.facts.application.0 2015 h.1)) (le-leb 1 e.facts.bits h.2)

pub good-facts : (e : Entry) → good_file (file_row e) ≡ true → GoodFacts e.facts
good-facts e h =
    let a = leb e.facts.channel.0 62 in
    let b = leb e.facts.application.0 2015 in
    let c = leb 1 e.facts.bits in
    let ab = and_left (a && b) c h in (
      leb-true e.facts.channel.0 62 (and_left a b ab),
      leb-true e.facts.application.0 2015 (and_right a b ab),
      leb-true 1 e.facts.bits (and_right (a && b) c h),
    )

-- an entry in the catalogue of es
module _ (b : List ℕ) (used : ℕ) (e : Entry) where
  abbrev Y : List ℕ
  Y = entered (take used b) e

  by_first : {n : ℕ} → First (entry_says b used e) n → entry_entered b used e ≡ gives (refuse n) b
  unfolding entry_entered
  by_first first = first-decided (gives (Ok (length Y)) (put b 0 Y)) (λ (n : ℕ). gives (refuse n) b) first

  pub none-there : held b used ≡ false → entry_entered b used e ≡ gives (refuse 31) b
  none-there h =
      let p : (held b used && eqb (length (files_of (take used b))) 1024) ≡ false = rw h in
      let q : not (held b used && good_file (file_row e)) ≡ true = rw h in
      by_first (later p (here q))

  module _ {es : List Entry} (g : Good es) (within : used ≤ length b) (is : take used b ≡ written es) where
    is_held : held b used ≡ true
    is_held = and_both (le-leb used (length b) within) (ap accepts is ∙ written-accepted g)

    files-n : length (files_of (take used b)) ≡ length es
    files-n = ap (λ (ys : List ℕ). length (files_of ys)) is ∙ ap length (files-read g) ∙ length-map es file_row

    new : Y ≡ written (es ++ (e ∷ []))
    new = ap (λ (ys : List ℕ). entered ys e) is ∙ entered-written g e

    pub when-full : length es ≡ 1024 → entry_entered b used e ≡ gives (refuse 30) b
    when-full q =
        let p : (held b used && eqb (length (files_of (take used b))) 1024) ≡ true = and_both is_held (eq-eqb (length (files_of (take used b))) 1024 (files-n ∙ q)) in
        by_first (here p)

    module _ (few : length es < 1024) where
      not_full : (held b used && eqb (length (files_of (take used b))) 1024) ≡ false
      not_full = rw (ne_eqb (length (files_of (take used b))) 1024 (λ q. omega (arith, files-n)), and-false)

      pub when-bad : good_file (file_row e) ≡ false → entry_entered b used e ≡ gives (refuse 31) b
      when-bad h =
          let p : not (held b used && good_file (file_row e)) ≡ true = rw (h, and-false) in
          by_first (later not_full (here p))

      module _ (good : good_file (file_row e) ≡ true) where
        right : not (held b used && good_file (file_row e)) ≡ false
        right = rw (is_held, good)

        pub when-short : length b < length (written (es ++ (e ∷ []))) → entry_entered b used e ≡ gives (refuse 34) b
        when-short h = by_first (later not_full (later right (here (lt-ltb (length b) (length Y) (omega (arith, ap length new))))))

        pub when-done : length (written (es ++ (e ∷ []))) ≤ length b
            → entry_entered b used e ≡ gives (Ok (length (written (es ++ (e ∷ []))))) (put b 0 (written (es ++ (e ∷ []))))
        unfolding entry_entered
        when-done h =
            none-decided (gives (Ok (length Y)) (put b 0 Y)) (λ (n : ℕ). gives (refuse n) b) (entry_says b used e)
            (not_full, (right, (le-ltb (length b) (length Y) (omega (arith, ap length new)), tt)))
            ∙ ap (λ (ys : List ℕ). gives (Ok (length ys)) (put b 0 ys)) new

-- what a header says has room in its fields
module _ (xs : List ℕ) (o : Octets xs) where
  image-typed : (s t : Option ℕ) → GoodImage
      (image_facts (if_there (λ p. Some (image_at xs p)) None s) (if_there (λ p. Some (segment_at xs p)) None t))
  unfolding image_at segment_at
  image-typed None t = GoodImage.none
  image-typed (Some p) None =
      let zero-fits : 0 < 256 = omega arith in
      GoodImage.some (number_at-below xs (p + 4) 2 o) (number_at-below xs (p + 6) 2 o) zero-fits zero-fits
  image-typed (Some p) (Some q) =
      GoodImage.some (number_at-below xs (p + 4) 2 o) (number_at-below xs (p + 6) 2 o) (number_at-below xs (q + 3) 1 o) (number_at-below xs (q + 4) 1 o)

entry-good : (h : Handed) → Typed h → good_file (file_row (entry_for h.facts h.file)) ≡ true → GoodEntry (entry_for h.facts h.file)
unfolding entry_for primary_of image_of segment_of
entry-good h t g =
    let e = entry_for h.facts h.file in
    let f = good-facts e g in
    let xs = header_of h.file in
    let o = octets-take h.file (field_of h.file 0 header_length) t.octets in
    record {
      low = f.0;
      free = f.1;
      some = f.2;
      counted = t.counter;
      long = t.bits;
      octet = number_at-below xs 3 1 o;
      shown = image-typed xs o (place_of 1 (records xs)) (place_of 128 (records xs));
    }

all_more : {es : List Entry} {e : Entry} → AllGood es → GoodEntry e → AllGood (es ++ (e ∷ []))
all_more AllGood.none g = AllGood.one g AllGood.none
all_more (AllGood.one h hs) g = AllGood.one h (all_more hs g)

-- the front of the buffer is the catalogue of some files
pub record Right (k : Kept) (long : ℕ) (es : List Entry) : Type 0 where
  pub good : Good es
  pub within : k.used ≤ length k.buffer
  pub same : length k.buffer ≡ long
  pub is : take k.used k.buffer ≡ written es

-- what was written at the front of a buffer is its front
pub front : (b w : List ℕ) → length w ≤ length b → take (length w) (put b 0 w) ≡ w
front b w h =
    let fits : 0 + length w ≤ length b = omega arith in
    ap (take (length w)) (put-parts b 0 w fits) ∙ take_at w (drop (0 + length w) b) (length w) refl

-- one call keeps it so
step_right : (k : Kept) (h : Handed) {long : ℕ} {es : List Entry} → Typed h → Right k long es
    → Right (after k h) long (es ++ entered_by (outcome k h).answer (entry_for h.facts h.file))
unfolding file_entered
step_right k h {long} {es} t r =
    decided-cases (λ (o : Outcome). Right (kept_by k.used o.buffer o.answer) long (es ++ entered_by o.answer e)) (header_says fixed_types h.file ++ entry_says k.buffer k.used e)
    (λ none. entered-right (none-append (header_says fixed_types h.file) (entry_says k.buffer k.used e) none).1)
    (λ n first. subst (Right (record { buffer = k.buffer; used = k.used }) long) (sym (append-nil es)) r)
  where
    e : Entry
    e = entry_for h.facts h.file

    entered-right : NoneApplies (entry_says k.buffer k.used e)
        → Right (record { buffer = put k.buffer 0 (entered (take k.used k.buffer) e); used = length (entered (take k.used k.buffer) e) }) long (es ++ (e ∷ []))
    entered-right none =
        let b = k.buffer in
        let w = entered (take k.used b) e in
        let both = not-false (held b k.used && good_file (file_row e)) none.1.0 in
        let few : length es ≡ 1024 → ⊥ = λ q. full-not q none.0 in
        let room : length w ≤ length b = ltb-false (length b) (length w) none.1.1.0 in
        record {
          good = record {
            few = omega (arith, length-append es (e ∷ []), r.good.few, few);
            all = all_more r.good.all (entry-good h t (and_right (held b k.used) (good_file (file_row e)) both));
          };
          within = omega (arith, length-put b 0 w);
          same = length-put b 0 w ∙ r.same;
          is = front b w room ∙ new b k.used e r.good r.within r.is;
        }
      where
        full-not : length es ≡ 1024 → (held k.buffer k.used && eqb (length (files_of (take k.used k.buffer))) 1024) ≡ false → ⊥
        full-not q f =
            false≢true (sym f
            ∙ and_both (is_held k.buffer k.used e r.good r.within r.is)
            (eq-eqb (length (files_of (take k.used k.buffer))) 1024 (files-n k.buffer k.used e r.good r.within r.is ∙ q)))

pub night-right : (k : Kept) (hs : List Handed) {long : ℕ} {es : List Entry} → AllTyped hs → Right k long es → Right (night k hs) long (es ++ all_entered k hs)
unfolding night all_entered
night-right k [] {long} {es} t r = subst (Right k long) (sym (append-nil es)) r
night-right k (h ∷ hs) {long} {es} (AllTyped.one t ts) r =
    subst (Right (night (after k h) hs) long)
    (append_assoc es (entered_by (outcome k h).answer (entry_for h.facts h.file)) (all_entered (after k h) hs))
    (night-right (after k h) hs ts (step_right k h t r))
