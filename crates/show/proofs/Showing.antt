-- What H writes: the numbers of an owner's blocks one by one, then the lines one by one, and how much room they take. Assumes nothing.
use Rattle.std.specs.Prelude.{if◌then◌else◌}
use mathlib.Core.Path.{◌≡◌, refl, sym, ap, ◌∙◌}
use mathlib.Core.Bool.{true, false}
use mathlib.Core.List.{List, [], ◌∷◌, ◌++◌}
use Prim.Native.Nat.{ℕ, zero, suc, ◌+◌, ◌-◌, ◌*◌, ◌≤◌, ◌<◌, min}
use native.Mathlib.Decide.{ℕ_discrete, dec_lt}
use native.Mathlib.Nat.{sub-zero, min-eq_left, min-eq_right}
use native.Mathlib.Numerals.{add-one}
use native.Mathlib.Omega.{arith}
use borrow.Author.Tests.{eq-eqb, ne_eqb}
use lib.ListN.{length, get_or, take, drop, drop_of_length-le}
use lib.Seq.{drop-cons, take_all, get_or-take, length-take-le}
use Rattle.text.specs.Pieces.{spaced, Written}
use Rattle.text.proofs.Following.{Writing, behind, begun, went_on, done}
use Rattle.frame.specs.declared.Channel.{Channel}
use Rattle.state.specs.declared.Slot.{Slot}
use Rattle.state.specs.declared.Desk.{Desk}
use Rattle.state.specs.declared.Station.{Station}
use Rattle.state.specs.Slots.{no_file, empty_desk}
use Rattle.state.specs.Blocks.{numbers_of}
use Rattle.state.proofs.Blocks.{numbers-next, more-front}
use Rattle.show.specs.Shown.{head_line, spaced_all, all_fields_zero, slot_line, slot_lines, channel_line, channel_lines, shown}

-- the first i entries of the table were looked at
pub record Numbering (o : ℕ) (table before : List ℕ) (at : ℕ) (out : List ℕ) (end i : ℕ) : Type 0 where
  pub within : i ≤ length table
  pub few : end + 21 * length (numbers_of o i (drop i table)) ≤ at + 21 * length (numbers_of o 0 table)
  pub room : length out ≡ length before
  pub gives : Writing before at (spaced_all (numbers_of o 0 table)) out end (spaced_all (numbers_of o i (drop i table)))

pub numbering-none : (o : ℕ) (table before : List ℕ) (at : ℕ) → Numbering o table before at before at 0
numbering-none o table before at =
    record { within = omega arith; few = omega arith; room = refl; gives = begun before (spaced_all (numbers_of o 0 table)) at }

module _ {o : ℕ} {table before out : List ℕ} {at end i : ℕ} (g : Numbering o table before at out end i) where
  module _ (h : i < length table) where
    here : get_or table i 0 ≡ o → numbers_of o i (drop i table) ≡ i ∷ numbers_of o (i + 1) (drop (i + 1) table)
    here e = numbers-next o i table i h ∙ rw (eq-eqb _ _ e, add-one i)

    pub numbering-room : get_or table i 0 ≡ o → end + 21 ≤ at + 21 * length (numbers_of o 0 table)
    numbering-room e = omega (arith, g.few, ap length (here e))

    pub numbering-hit : {after : List ℕ} {next : ℕ} → get_or table i 0 ≡ o → next ≤ end + 21 → length after ≡ length out
        → Written out end (spaced i) after next → Numbering o table before at after next (i + 1)
    unfolding spaced_all
    numbering-hit e few room w =
        record { within = omega arith; few = omega (arith, g.few, ap length (here e)); room = room ∙ g.room; gives = went_on (rw (here e) at g.gives) w }

    pub numbering-miss : (get_or table i 0 ≡ o → ⊥) → Numbering o table before at out end (i + 1)
    numbering-miss n =
        let passed : numbers_of o i (drop i table) ≡ numbers_of o (i + 1) (drop (i + 1) table) = numbers-next o i table i h ∙ rw (ne_eqb _ _ n, add-one i) in
        record { within = omega arith; few = omega (arith, g.few, ap length passed); room = g.room; gives = rw passed at g.gives }

  pub numbering-all : length table ≤ i → Written before at (spaced_all (numbers_of o 0 table)) out end
  unfolding numbers_of spaced_all
  numbering-all h = done (rw (drop_of_length-le table h) at g.gives)

  pub numbering-few : end ≤ at + 21 * length (numbers_of o 0 table)
  numbering-few = omega (arith, g.few)

-- how many blocks a table gives to the first k slots
unfoldable pub numbered : ℕ → List ℕ → ℕ
numbered zero table = 0
numbered (suc k) table = numbered k table + length (numbers_of (suc k) 0 table)

-- an entry more: a block more for one slot at most, and for none of these if it belongs behind them
record Counts (k x : ℕ) (table : List ℕ) : Type 0 where
  once : numbered k (x ∷ table) ≤ suc (numbered k table)
  apart : k < x → numbered k (x ∷ table) ≡ numbered k table

counts : (k x : ℕ) (table : List ℕ) → Counts k x table
unfolding numbered
counts zero x table = record { once = omega arith; apart = λ _. refl }
counts (suc k) x table = go (counts k x table) (ℕ_discrete x (suc k))
  where
    go : Counts k x table → Dec (x ≡ suc k) → Counts (suc k) x table
    go c (yes e) =
        let own : length (numbers_of (suc k) 0 (x ∷ table)) ≡ 1 + length (numbers_of (suc k) 0 table) = more-front x table (suc k) ∙ rw (eq-eqb _ _ e) in
        record { once = omega (arith, own, c.apart (omega arith)); apart = λ l. omega arith }
    go c (no n) =
        let own : length (numbers_of (suc k) 0 (x ∷ table)) ≡ 0 + length (numbers_of (suc k) 0 table) = more-front x table (suc k) ∙ rw (ne_eqb _ _ n) in
        record { once = omega (arith, own, c.once); apart = λ l. omega (arith, own, c.apart (omega arith)) }

-- a block has one owner
numbered-few : (k : ℕ) (table : List ℕ) → numbered k table ≤ length table
unfolding numbered numbers_of
numbered-few zero [] = omega arith
numbered-few (suc k) [] = omega (arith, numbered-few k [])
numbered-few k (x ∷ table) = omega (arith, (counts k x table).once, numbered-few k table)

-- the lines of the first k slots were written
pub record Slotting (slots : List Slot) (table before : List ℕ) (at : ℕ) (out : List ℕ) (end k : ℕ) : Type 0 where
  pub all : length slots ≡ 32
  pub within : k ≤ 32
  pub few : end ≤ at + 128 * k + 21 * numbered k table
  pub room : length out ≡ length before
  pub gives : Writing before at (slot_lines 0 slots table) out end (slot_lines k (drop k slots) table)

pub slotting-none : (slots : List Slot) (table before : List ℕ) (at : ℕ) → length slots ≡ 32 → Slotting slots table before at before at 0
unfolding numbered
slotting-none slots table before at all =
    record { all = all; within = omega arith; few = omega arith; room = refl; gives = begun before (slot_lines 0 slots table) at }

module _ {slots : List Slot} {table before out : List ℕ} {at end k : ℕ} (g : Slotting slots table before at out end k) where
  module _ (h : k < 32) where
    abbrev line : List ℕ
    line = if all_fields_zero (get_or slots k no_file) then [] else slot_line k (get_or slots k no_file) table

    next : slot_lines k (drop k slots) table ≡ line ++ slot_lines (k + 1) (drop (k + 1) slots) table
    unfolding slot_lines
    next = ap (λ (xs : List Slot). slot_lines k xs table) (drop-cons slots k no_file (omega (arith, g.all))) ∙ rw (add-one k)

    -- room for the line of slot k
    pub slotting-room : end + 128 + 21 * length (numbers_of (k + 1) 0 table) ≤ at + 4096 + 21 * length table
    unfolding numbered
    slotting-room = rw (add-one k) (omega (arith, g.few, numbered-few (suc k) table))

    pub slotting-line : {after : List ℕ} {after-end : ℕ} → all_fields_zero (get_or slots k no_file) ≡ false
        → after-end ≤ end + 128 + 21 * length (numbers_of (k + 1) 0 table) → length after ≡ length out
        → Written out end (slot_line k (get_or slots k no_file) table) after after-end → Slotting slots table before at after after-end (k + 1)
    unfolding numbered
    slotting-line z few room w =
        record {
          all = g.all;
          within = omega arith;
          few = rw (add-one k) (omega (arith, g.few, rw (add-one k) at few));
          room = room ∙ g.room;
          gives = went_on (rw (next, z) at g.gives) w;
        }

    pub slotting-skip : all_fields_zero (get_or slots k no_file) ≡ true → Slotting slots table before at out end (k + 1)
    unfolding numbered
    slotting-skip z =
        record {
          all = g.all;
          within = omega arith;
          few = rw (add-one k) (omega (arith, g.few));
          room = g.room;
          gives = rw (next, z) at g.gives;
        }

  pub slotting-all : 32 ≤ k → Written before at (slot_lines 0 slots table) out end
  unfolding slot_lines
  slotting-all h =
      let past : length slots ≤ k = omega (arith, g.all) in
      done (rw (drop_of_length-le slots past) at g.gives)

  pub slotting-few : end ≤ at + 4096 + 21 * length table
  slotting-few = omega (arith, g.few, g.within, numbered-few k table)

abbrev no_channel : Channel
no_channel = record { 0 = 0 }

-- the lines of the first i of n channels were written
pub record Channelling (n : ℕ) (watched : List Channel) (desks : List Desk) (before : List ℕ) (at : ℕ) (out : List ℕ) (end i : ℕ) : Type 0 where
  pub all : (n ≤ length watched) × (n ≤ length desks)
  pub within : i ≤ n
  pub few : end ≤ at + 86 * i
  pub room : length out ≡ length before
  pub gives : Writing before at (channel_lines (take n watched) desks) out end (channel_lines (drop i (take n watched)) (drop i desks))

pub channelling-none : (n : ℕ) (watched : List Channel) (desks : List Desk) (before : List ℕ) (at : ℕ) → n ≤ length watched → n ≤ length desks
    → Channelling n watched desks before at before at 0
channelling-none n watched desks before at a b =
    record { all = (a, b); within = omega arith; few = omega arith; room = refl; gives = begun before (channel_lines (take n watched) desks) at }

module _ {n : ℕ} {watched : List Channel} {desks : List Desk} {before out : List ℕ} {at end i : ℕ} (g : Channelling n watched desks before at out end i) where
  pub channelling-line : {after : List ℕ} {next : ℕ} → i < n → next ≤ end + 86 → length after ≡ length out
      → Written out end (channel_line (get_or watched i (no_channel)).0 (get_or desks i empty_desk)) after next
      → Channelling n watched desks before at after next (i + 1)
  unfolding channel_lines
  channelling-line h few room w =
      let long : length (take n watched) ≡ n = length-take-le n watched g.all.0 in
      let here : channel_lines (drop i (take n watched)) (drop i desks) ≡ (channel_line (get_or watched i (no_channel)).0 (get_or desks i empty_desk) ++ channel_lines (drop (i + 1) (take n watched)) (drop (i + 1) desks)) =
      rw (drop-cons (take n watched) i (no_channel) (omega arith), drop-cons desks i empty_desk (omega (arith, g.all.1)), get_or-take n watched i (no_channel) h, add-one i) in
      record { all = g.all; within = omega arith; few = omega (arith, g.few); room = room ∙ g.room; gives = went_on (rw here at g.gives) w }

  pub channelling-all : n ≤ i → Written before at (channel_lines (take n watched) desks) out end
  unfolding channel_lines
  channelling-all h =
      let past : length (take n watched) ≤ i = omega (arith, length-take-le n watched g.all.0) in
      done (rw (drop_of_length-le (take n watched) past) at g.gives)

-- a number cut down to a list's length takes as much of it
pub take-cut : {A : Type 0} (n m : ℕ) (xs : List A) → length xs ≡ m → take (min n m) xs ≡ take n xs
take-cut n m xs e = go (dec_lt n m)
  where
    go : Dec (n < m) → take (min n m) xs ≡ take n xs
    go (yes l) =
        let k : min n m ≡ n = min-eq_left (omega arith) in
        rw k
    go (no l) =
        let k : min n m ≡ m = min-eq_right (omega arith) in
        rw k (take_all m xs (omega arith) ∙ sym (take_all n xs (omega arith)))

-- the three pieces, as the program cuts them, are what is shown
module _ (s : Station) (desks store : List ℕ) where
  pub shown-whole : {out₀ out₁ out₂ out₃ : List ℕ} {a b c blocks channels : ℕ} → length s.owner ≡ 4096 → length s.watched ≡ 8
      → blocks ≡ min s.blocks 4096 → channels ≡ min s.channels 8 → Written out₀ 0 (head_line desks store) out₁ a
      → Written out₁ a (slot_lines 0 s.slots (take (blocks - 0) s.owner)) out₂ b
      → Written out₂ b (channel_lines (take channels s.watched) s.desks) out₃ c → Written out₀ 0 (shown s desks store) out₃ c
  unfolding shown
  shown-whole {blocks = blocks} owners watched e f first second third =
      let slots = rw (sub-zero blocks, e, take-cut s.blocks 4096 s.owner owners) at second in
      let channels = rw (f, take-cut s.channels 8 s.watched watched) at third in
      behind (behind first slots) channels
