-- All that is promised of catalogues. Assumes nothing.
use Rattle.std.specs.Prelude.{Result, Ok, Err}
use mathlib.Core.Path.{◌≡◌, refl, sym, ap, ◌∙◌, subst}
use mathlib.Core.Bool.{Bool, true, false, ◌&&◌, false≢true}
use mathlib.Core.List.{List, [], ◌∷◌, ◌++◌, map}
use mathlib.Core.Logic.{⊎_elim}
use Prim.Native.Nat.{ℕ, ◌≤◌}
use native.Mathlib.Omega.{arith}
use borrow.Author.Tests.{leb-true, lt-ltb, le-ltb, ltb-true, eqb-false, not-false}
use lib.Dec.{leb, eqb}
use lib.ListN.{length, take, drop, length-append, length-map, replicate}
use Rattle.octets.specs.Number.{Octets, in_octets}
use Rattle.octets.specs.Buffer.{put}
use Rattle.octets.specs.Reasons.{decided}
use Rattle.octets.proofs.Decide.{exactly}
use Rattle.octets.proofs.Numbers.{octets-take}
use Rattle.octets.proofs.Put.{length-put, drop-put-after}
use Rattle.octets.proofs.Reasons.{First, decided-cases, decided-map}
use Rattle.octets.proofs.Reasons.First.{here, later}
use Rattle.octets.proofs.Tests.{and_left, and_right}
use Rattle.refusals.specs.declared.Refusal.{Refusal}
use Rattle.refusals.specs.Refusals.{refuse}
use Rattle.records.specs.Table.{fixed_types}
use Rattle.records.specs.Records.{header_says}
use Rattle.records.specs.Reader.{read_header, header_number}
use Rattle.records.specs.Together.{ZeroOr}
use Rattle.records.proofs.Together.{header-answers}
use Rattle.facts.specs.declared.Facts.{Facts}
use Rattle.sections.specs.Sections.{rows, section, sections}
use Rattle.records.specs.declared.Header.{Header}
use Rattle.catalogue.specs.declared.Entry.{Entry}
use Rattle.catalogue.specs.Catalogue.{file_row, image_rows, how_many, channel_rows, counted_channels, written, Good, AllGood, Catalogue, good_file, accepts, files_of, images_of, channels_of, listed}
use Rattle.catalogue.specs.Asking.{catalogue_read, file_asked, image_asked, channel_asked}
use Rattle.catalogue.specs.Entering.{entry_for, entered, held, entry_says, enter_says, Outcome, gives, entry_entered, file_entered, begun}
use Rattle.catalogue.specs.Answers.{entered_said}
use Rattle.catalogue.specs.Night.{Handed, kept_by, evening, AllTyped}
use Rattle.catalogue.specs.Promises.{Asked, Says, Refused31, GoodFacts, Entering, Begins, Night, Promises}
use Rattle.catalogue.proofs.Exact.{accepts-exactly, same-list, written-accepted, files-read, images-read, channels-read, few-files}
use Rattle.catalogue.proofs.Judging.{lies-all, accepts-whole}
use Rattle.catalogue.proofs.Asking.{file-count, image-count, channel-count, file-stands, image-stands, channel-stands}
use Rattle.catalogue.proofs.Lengths.{longest, list_length}
use Rattle.catalogue.proofs.Telling.{told}
use Rattle.catalogue.proofs.Night.{listed-written, header_refused, header_read, refused-header, read-header, facts-good, good-facts, none-there, when-full, when-bad, when-short, when-done, Right, front, night-right}

-- the empty catalogue is six zeros
pub empty-written : written [] ≡ replicate 6 0
unfolding written sections section in_octets rows image_rows channel_rows how_many
empty-written = refl

begins : (b : List ℕ) → Begins b
unfolding begun
begins b =
    record {
      short = λ h. rw (empty-written, lt-ltb (length b) 6 h);
      done = λ h. rw (empty-written, le-ltb (length b) 6 h);
    }

-- questions
asked : (es : List Entry) → Good es → Asked es
unfolding catalogue_read file_asked image_asked channel_asked
asked es g =
    record {
      sizes = rw (written-accepted g, files-read g, images-read g, channels-read g, length-map es file_row);
      a-file = λ n h. rw (written-accepted g, files-read g, length-map es file_row, lt-ltb n (length es) h);
      no-file = λ n h. rw (written-accepted g, files-read g, length-map es file_row, le-ltb n (length es) h);
      an-image = λ n h. rw (written-accepted g, images-read g, lt-ltb n (length (image_rows 0 es)) h);
      no-image = λ n h. rw (written-accepted g, images-read g, le-ltb n (length (image_rows 0 es)) h);
      a-channel = λ n h. rw (written-accepted g, channels-read g, lt-ltb n (length (counted_channels (map file_row es))) h);
      no-channel = λ n h. rw (written-accepted g, channels-read g, le-ltb n (length (counted_channels (map file_row es))) h);
    }

says : (xs : List ℕ) → accepts xs ≡ true → Says xs
unfolding catalogue_read file_asked image_asked channel_asked
says xs a =
    let L = lies-all xs (accepts-whole xs a) in
    record {
      sizes = rw a;
      a-file = λ n h. rw (a, lt-ltb n (length (files_of xs)) h, file-stands L n (omega (arith, file-count L)));
      an-image = λ n h. rw (a, lt-ltb n (length (images_of xs)) h, image-stands L n (omega (arith, image-count L)));
      a-channel = λ n h. rw (a, lt-ltb n (length (channels_of xs)) h, channel-stands L n (omega (arith, channel-count L)));
    }

-- a test that does not decide for a fact decides against it
refuses : (xs : List ℕ) → Octets xs → (Catalogue xs → ⊥) → accepts xs ≡ false
refuses xs o h = go (accepts xs) refl
  where
    go : (b : Bool) → accepts xs ≡ b → accepts xs ≡ false
    go true e = absurd (h ((exactly (accepts-exactly xs o)).0 e))
    go false e = e

not-asked : (xs : List ℕ) → Octets xs → (Catalogue xs → ⊥) → Refused31 xs
unfolding catalogue_read file_asked image_asked channel_asked
not-asked xs o h =
    let e = refuses xs o h in
    record { sizes = rw e; a-file = λ n. rw e; an-image = λ n. rw e; a-channel = λ n. rw e }

-- entering
module _ (b : List ℕ) (o : Octets b) (used : ℕ) where
  not-held : ((used ≤ length b) × Catalogue (take used b) → ⊥) → held b used ≡ false
  not-held h = go (held b used) refl
    where
      go : (t : Bool) → held b used ≡ t → held b used ≡ false
      go true e =
          absurd (h (
            leb-true used (length b) (and_left (leb used (length b)) (accepts (take used b)) e),
            (exactly (accepts-exactly (take used b) (octets-take b used o))).0 (and_right (leb used (length b)) (accepts (take used b)) e),
          ))
      go false e = e

  bad-facts : (e : Entry) → (GoodFacts e.facts → ⊥) → good_file (file_row e) ≡ false
  bad-facts e h = go (good_file (file_row e)) refl
    where
      go : (t : Bool) → good_file (file_row e) ≡ t → good_file (file_row e) ≡ false
      go true q = absurd (h (good-facts e q))
      go false q = q

  enters : (f : Facts) (file : List ℕ) → Entering b used f file
  unfolding entry_for
  enters f file =
      record {
        refused = λ n e. refused-header b used f file (header_refused file n e);
        none = λ h e c. read-header b used f file (header_read file h e) ∙ none-there b used (entry_for f file) (not-held c);
        some = λ h e within es g is.
            let r = read-header b used f file (header_read file h e) in
            let x = entry_for f file in
            record {
              full = λ q. r ∙ when-full b used x g within is q;
              bad-facts = λ few q. r ∙ when-bad b used x g within is few (bad-facts x q);
              short = λ few q l. r ∙ when-short b used x g within is few (facts-good x q) l;
              done = λ few q l. r ∙ when-done b used x g within is few (facts-good x q) l;
            };
      }

entering-says : (b : List ℕ) (used : ℕ) (f : Facts) (file : List ℕ)
    → entered_said (file_entered b used f file).answer
    ≡ decided (enter_says b used f file) (0 ∷ length (entered (take used b) (entry_for f file)) ∷ []) (λ (n : ℕ). n ∷ [])
unfolding file_entered
entering-says b used f file =
    let w = entered (take used b) (entry_for f file) in
    decided-map (λ (r : Outcome). entered_said r.answer) (enter_says b used f file) (gives (Ok (length w)) (put b 0 w)) (λ (n : ℕ). gives (refuse n) b)

-- a long enough buffer
abbrev number_of : Result ℕ Refusal → ℕ
number_of (Err n) = n.0
number_of (Ok n) = 0

abbrev is-now : Result ℕ Refusal → Bool
is-now (Err n) = false
is-now (Ok n) = true

abbrev size_of : Result ℕ Refusal → ℕ
size_of (Err n) = 0
size_of (Ok n) = n

new-length : (xs : List ℕ) (e : Entry) → length (files_of xs) ≤ 1024 → (length (files_of xs) ≡ 1024 → ⊥) → length (entered xs e) ≤ 22723
unfolding entered listed
new-length xs e few other =
    longest (listed xs ++ (e ∷ [])) (omega (arith, length-append (listed xs) (e ∷ []), list_length 0 (files_of xs) (images_of xs), few, other))

module _ (b : List ℕ) (o : Octets b) (long : 22723 ≤ length b) (used : ℕ) where
  enough : (e : Entry) → (entry_entered b used e).answer ≡ refuse 34 → ⊥
  unfolding entry_entered
  enough e =
      let w = entered (take used b) e in
      decided-cases (λ (r : Outcome). r.answer ≡ refuse 34 → ⊥) (entry_says b used e) {done = gives (Ok (length w)) (put b 0 w)}
      {refused = λ n. gives (refuse n) b}
      (λ none q. false≢true (sym (ap is-now q))) (λ n first q. go n first (ap number_of q))
    where
      go : (n : ℕ) → First (entry_says b used e) n → n ≡ 34 → ⊥
      go n (here p) q = omega arith
      go n (later p (here r)) q = omega arith
      go n (later p (later r (here s))) q =
          let xs = take used b in
          let both = not-false (held b used && good_file (file_row e)) r in
          let has = and_left (held b used) (good_file (file_row e)) both in
          let few = few-files xs (octets-take b used o) (and_right (leb used (length b)) (accepts xs) has) in
          let other = eqb-false (length (files_of xs)) 1024 (ap (λ (t : Bool). t && eqb (length (files_of xs)) 1024) (sym has) ∙ p) in
          omega (arith, ltb-true (length b) (length (entered xs e)) s, new-length xs e few other)
      go n (later p (later r (later _ s))) q = elim s [ ]

  never-34 : (f : Facts) (file : List ℕ) → (file_entered b used f file).answer ≡ refuse 34 → ⊥
  unfolding read_header
  never-34 f file q =
      decided-cases (λ (a : Result Header Refusal). ZeroOr 20 26 (header_number a) → ⊥) (header_says fixed_types file)
      (λ none z. enough (entry_for f file) (ap (λ (r : Outcome). r.answer) (sym (read-header b used f file none)) ∙ q))
      (λ n first z. other n (ap (λ (r : Outcome). number_of r.answer) (sym (refused-header b used f file first)) ∙ ap number_of q) z)
      (header-answers file)
    where
      other : (n : ℕ) → n ≡ 34 → ZeroOr 20 26 n → ⊥
      other n e z = ⊎_elim (λ y. omega arith) (λ y. omega (arith, y.1)) z

behind : (b : List ℕ) (used : ℕ) (f : Facts) (file : List ℕ) (n : ℕ) → (file_entered b used f file).answer ≡ Ok n
    → drop n (file_entered b used f file).buffer ≡ drop n b
unfolding file_entered
behind b used f file n =
    let w = entered (take used b) (entry_for f file) in
    decided-cases (λ (r : Outcome). r.answer ≡ Ok n → drop n r.buffer ≡ drop n b) (header_says fixed_types file ++ entry_says b used (entry_for f file))
    (λ none q. drop-put-after w b 0 n (omega (arith, ap size_of q)))
    (λ m first q. absurd (false≢true (ap is-now q)))

-- a night
evening-right : (b : List ℕ) → 6 ≤ length b → Right (evening b) (length b) []
evening-right b h =
    subst (λ (o : Outcome). Right (kept_by 0 o.buffer o.answer) (length b) []) (sym ((begins b).done h))
    (record {
      good = record { few = omega arith; all = AllGood.none };
      within = omega (arith, length-put b 0 (replicate 6 0));
      same = length-put b 0 (replicate 6 0);
      is = front b (replicate 6 0) h ∙ sym empty-written;
    })

nights : (b : List ℕ) → 6 ≤ length b → (hs : List Handed) → AllTyped hs → Night b hs
nights b h hs t =
    let r = night-right (evening b) hs t (evening-right b h) in
    record { good = r.good; within = r.within; same-buffer = r.same; is = r.is }

pub promised : Promises
promised =
    record {
      exactly = λ xs o. exactly (accepts-exactly xs o);
      one_list = λ es ds g h e. same-list g h e;
      listed_back = λ es g. listed-written g;
      tells = told;
      asked = asked;
      says = says;
      not-asked = not-asked;
      begins = begins;
      enters = λ b o used f file. enters b o used f file;
      entering-says = entering-says;
      longest = longest;
      never-34 = λ b o l used f file. never-34 b o l used f file;
      behind = behind;
      nights = nights;
    }
