-- What entering refuses, and why; and what is known where it goes on. Assumes nothing.
use Rattle.std.specs.Prelude.{Some, None, Result, Ok}
use mathlib.Core.Path.{◌≡◌, sym, ap, ap₂, subst, ◌∙◌}
use mathlib.Core.Bool.{true, false, not, ◌&&◌, and-false}
use mathlib.Core.List.{List, [], ◌∷◌, ◌++◌, map}
use Prim.Native.Nat.{ℕ, ◌+◌, ◌*◌, ◌<◌, ◌≤◌}
use native.Mathlib.Omega.{arith}
use borrow.Author.Tests.{le-leb, lt-leb, lt-ltb, le-ltb, eq-eqb, ne_eqb}
use lib.Dec.{leb, eqb}
use lib.ListN.{length, take, drop, get_or, replicate}
use Rattle.octets.specs.Number.{Octets}
use Rattle.octets.specs.Buffer.{put}
use Rattle.octets.specs.Each.{each}
use Rattle.octets.proofs.Numbers.{octets-take, number_at-below}
use Rattle.octets.proofs.Reasons.{First, first-decided, none-decided}
use Rattle.octets.proofs.Reasons.First.{here, later}
use Rattle.refusals.specs.declared.Refusal.{Refusal}
use Rattle.refusals.specs.Refusals.{refuse}
use Rattle.sections.specs.Sections.{Row, entries}
use Rattle.sections.proofs.Parts.{length-entries}
use Rattle.catalogue.specs.declared.Places.{Places}
use Rattle.catalogue.specs.declared.Entry.{Entry}
use Rattle.catalogue.specs.Catalogue.{file_widths, file_row, image_row, channel_rows, channel_of, good_file, files_of}
use Rattle.catalogue.specs.Reading.{tallied, found_in, Ready}
use Rattle.catalogue.specs.Entering.{Outcome, gives, entered, held, entry_says, entry_entered}
use Rattle.catalogue.proofs.Exact.{few-files, good-files}
use Rattle.catalogue.proofs.Lengths.{channels-length}
use Rattle.catalogue.proofs.Counting.{low-channel}
use Rattle.catalogue.proofs.Judging.{files-at, found-lies, found_none}
use Rattle.enter.specs.Contract.{Stands, Settled}
use Rattle.grow.proofs.Entering.{map-append, ready-length}

-- the facts of an entry, where the first two tests are passed
pub good-so : (e : Entry) → e.facts.channel.0 ≤ 62 → e.facts.application.0 ≤ 2015 → leb 1 e.facts.bits ≡ good_file (file_row e)
good-so e h k = sym (rw (le-leb e.facts.channel.0 62 h, le-leb e.facts.application.0 2015 k))

-- what was handed in is none
module _ (b : List ℕ) (used : ℕ) (e : Entry) where
  none-held : held b used ≡ false → First (entry_says b used e) 31
  none-held h =
      let p : (held b used && eqb (length (files_of (take used b))) 1024) ≡ false = rw h in
      let q : not (held b used && good_file (file_row e)) ≡ true = rw h in
      later p (here q)

  pub too_long : length b < used → First (entry_says b used e) 31
  too_long h = none-held (rw (lt-leb used (length b) h))

  pub is_none : found_in (take used b) ≡ None → First (entry_says b used e) 31
  is_none q = none-held (rw (found_none (take used b) q, and-false))

-- it is one
pub stands : (b : List ℕ) (used : ℕ) {at : Places} → used ≤ length b → found_in (take used b) ≡ Some at → Stands b used at
stands b used l q =
    let k = found-lies q in
    record { catalogue = k.0; lies = k.1; within = l }

module _ {b : List ℕ} {used : ℕ} {at : Places} (S : Stands b used at) where
  abbrev xs : List ℕ
  xs = take used b

  is_held : held b used ≡ true
  is_held = rw (le-leb used (length b) S.within, S.catalogue)

  files-count : length (files_of xs) ≡ at.files
  files-count = ap length (files-at S.lies) ∙ length-entries file_widths at.files (drop 2 xs)

  module _ (e : Entry) where
    pub is-full : at.files ≡ 1024 → First (entry_says b used e) 30
    is-full h =
        let p : (held b used && eqb (length (files_of xs)) 1024) ≡ true = rw (is_held, files-count, eq-eqb at.files 1024 h) in
        here p

    module _ (n : at.files < 1024) where
      not_full : (held b used && eqb (length (files_of xs)) 1024) ≡ false
      not_full =
          let m : at.files ≡ 1024 → ⊥ = λ q. omega arith in
          rw (files-count, ne_eqb at.files 1024 m, and-false)

      pub is-bad : good_file (file_row e) ≡ false → First (entry_says b used e) 31
      is-bad h =
          let p : not (held b used && good_file (file_row e)) ≡ true = rw (h, and-false) in
          later not_full (here p)

      is_right : good_file (file_row e) ≡ true → not (held b used && good_file (file_row e)) ≡ false
      is_right g = rw (is_held, g)

  module _ (o : Octets b) where
    -- the places, by numbers that cannot wrap
    pub few-at : (at.files ≤ 1024) × (at.third ≤ 600000)
    few-at =
        let L = S.lies in
        let k = few-files xs (octets-take b used o) S.catalogue in
        let i = number_at-below xs at.second 2 (octets-take b used o) in
        (omega (arith, files-count, k), omega (arith, files-count, k, i, L.second, L.images, L.third))

    -- what counting asks
    pub files-ready : (e : Entry) → good_file (file_row e) ≡ true
        → (2 + at.files * 14 ≤ length xs) × (at.files ≤ 1024) × (each good_file (entries file_widths at.files (drop 2 xs)) ≡ true)
        × (e.facts.channel.0 < 63)
    files-ready e g =
        let L = S.lies in
        let good : each good_file (entries file_widths at.files (drop 2 xs)) ≡ true
        = ap (each good_file) (sym (files-at L)) ∙ good-files xs (octets-take b used o) S.catalogue in
        (omega (arith, L.second, L.third, L.ends), few-at.0, good, low-channel (file_row e) g)

  -- the counts make it ready
  pub is-ready : (e : Entry) → at.files < 1024 → good_file (file_row e) ≡ true → {counts : List ℕ}
      → counts ≡ tallied (replicate 63 0) (map channel_of (entries file_widths at.files (drop 2 xs)) ++ (e.facts.channel.0 ∷ []))
      → Ready b used at e counts
  is-ready e n g q =
      record {
        catalogue = S.catalogue;
        lies = S.lies;
        within = S.within;
        good = g;
        few = n;
        counted = q ∙ ap (tallied (replicate 63 0))
            (ap (λ (rs : List Row). map channel_of rs ++ (e.facts.channel.0 ∷ [])) (sym (files-at S.lies))
            ∙ sym (map-append channel_of (files_of xs) (file_row e ∷ [])));
      }

-- how many octets the catalogue will have, and what comes of that
module _ {b : List ℕ} {used : ℕ} {at : Places} {e : Entry} {counts : List ℕ} (R : Ready b used at e counts) where
  pub is-size : Octets b → {size : ℕ}
      → size ≡ at.third + 16 + length (image_row 0 e.image) * 8 + length (channel_rows (λ (c : ℕ). get_or counts c 0) 63 0) * 3
      → size ≡ length (entered (take used b) e)
  is-size o s = omega (arith, ready-length R o, channels-length (λ (c : ℕ). get_or counts c 0) 63 0)

  abbrev S : Stands b used at
  S = record { catalogue = R.catalogue; lies = R.lies; within = R.within }

  abbrev done : Outcome
  done = gives (Ok (length (entered (take used b) e))) (put b 0 (entered (take used b) e))

  module _ {size : ℕ} (s : size ≡ length (entered (take used b) e)) where
    pub is-short : length b < size → gives (refuse 34) b ≡ entry_entered b used e
    unfolding entry_entered
    is-short h =
        let f : First (entry_says b used e) 34
        = later (not_full S e R.few) (later (is_right S e R.few R.good) (here (lt-ltb (length b) (length (entered (take used b) e)) (omega arith)))) in
        sym (first-decided done (λ (n : ℕ). gives (refuse n) b) f)

    pub is-entered : size ≤ length b → {d : List ℕ} → d ≡ put b 0 (entered (take used b) e) → gives (Ok size) d ≡ entry_entered b used e
    unfolding entry_entered
    is-entered h q =
        ap₂ (λ (n : ℕ) (d : List ℕ). gives (Ok n) d) s q
        ∙ sym (none-decided done (λ (n : ℕ). gives (refuse n) b) (entry_says b used e)
        (not_full S e R.few, (is_right S e R.few R.good, (le-ltb (length b) (length (entered (take used b) e)) (omega arith), tt))))

-- what was settled
module _ (b : List ℕ) (used : ℕ) (e : Entry) {r : Result Places Refusal} (s : Settled b used e r) where
  pub settled-refused : {n : ℕ} → r ≡ refuse n → gives (refuse n) b ≡ entry_entered b used e
  unfolding entry_entered
  settled-refused q =
      sym (first-decided (gives (Ok (length (entered (take used b) e))) (put b 0 (entered (take used b) e))) (λ (n : ℕ). gives (refuse n) b)
      (subst (Settled b used e) q s))

  pub settled-goes : {at : Places} → r ≡ Ok at → Stands b used at × (at.files < 1024) × (good_file (file_row e) ≡ true)
  settled-goes q = subst (Settled b used e) q s
