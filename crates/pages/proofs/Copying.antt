-- The octets of blocks one after the other, and the loop that copies a part of them into a buffer. Assumes nothing.
use mathlib.Core.Path.{◌≡◌, refl, sym, ap, ◌∙◌}
use mathlib.Core.List.{List, [], ◌∷◌, ◌++◌, flat_map}
use Prim.Native.Nat.{ℕ, min, ◌+◌, ◌-◌, ◌*◌, ◌≤◌, ◌<◌}
use native.Mathlib.Nat.{sub-zero}
use native.Mathlib.Omega.{arith}
use lib.ListN.{length, get_or, take, length-append}
use Rattle.octets.specs.Number.{part}
use Rattle.octets.specs.Buffer.{put}
use Rattle.octets.proofs.Below.{Below, below-tail}
use Rattle.octets.proofs.Lists.{whole_part, part-part, part-add, part_left, part_right, part-seam}
use Rattle.octets.proofs.Put.{put-nil, put-put, put_whole, length-put}
use Rattle.state.specs.Blocks.{numbers_of}
use Rattle.room.specs.File.{block_octets, joined}
use Rattle.room.proofs.Given.{ahead, ahead_none, ahead-here, ahead_past, numbers-below}

-- block b lies in the store
abbrev pub Stored : List ℕ → ℕ → Type 0
Stored store b = 8190 * b + 8190 ≤ length store

module _ (store : List ℕ) where
  pub joined-cons : (b : ℕ) (bs : List ℕ) → joined store (b ∷ bs) ≡ block_octets store b ++ joined store bs
  unfolding joined flat_map
  joined-cons b bs = refl

  pub length-block : (b : ℕ) → Stored store b → length (block_octets store b) ≡ 8190
  length-block b h = whole_part store (8190 * b) 8190 h

  pub length-joined : (bs : List ℕ) → Below (λ (r : ℕ). Stored store (get_or bs r 0)) (length bs) → length (joined store bs) ≡ 8190 * length bs
  unfolding joined flat_map
  length-joined [] f = refl
  length-joined (b ∷ bs) f =
      let rest = below-tail (λ (r : ℕ). Stored store (get_or (b ∷ bs) r 0)) f in
      length-append (block_octets store b) (joined store bs) ∙ omega (arith, length-block b (f 0 (omega arith)), length-joined bs rest)

-- the blocks of an owner in a store of n blocks
pub length-owned : (owner : List ℕ) (n o : ℕ) (store : List ℕ) → length store ≡ 8190 * n
    → length (joined store (numbers_of o 0 (take n owner))) ≡ 8190 * length (numbers_of o 0 (take n owner))
length-owned owner n o store s = length-joined store (numbers_of o 0 (take n owner)) (λ r h. omega (arith, numbers-below o n owner r h))

-- the loop that copies: `skip` octets are to be passed, `done` are copied, block b is next, and what is left to do gives what was wanted
pub record Copying (owner : List ℕ) (n o : ℕ) (store : List ℕ) (from : ℕ) (before after : List ℕ) (skip done b : ℕ) : Type 0 where
  pub fits : n ≤ length owner
  pub stored : length store ≡ 8190 * n
  pub long : length after ≡ length before
  pub enough : skip + (length after - done) ≤ 8190 * length (ahead o b n owner)
  pub gives :
      part from (length before) (joined store (numbers_of o 0 (take n owner)))
      ≡ put after done (part skip (length after - done) (joined store (ahead o b n owner)))

pub copying-first : (owner : List ℕ) (n o : ℕ) (store : List ℕ) (from : ℕ) (before : List ℕ) → n ≤ length owner → length store ≡ 8190 * n
    → from + length before ≤ 8190 * length (numbers_of o 0 (take n owner)) → Copying owner n o store from before before from 0 0
copying-first owner n o store from before f s h =
    let all = joined store (numbers_of o 0 (take n owner)) in
    let whole : length (part from (length before) all) ≡ length before =
    whole_part all from (length before) (omega (arith, length-owned owner n o store s)) in
    record {
      fits = f;
      stored = s;
      long = refl;
      enough = rw (sub-zero n, sub-zero (length before)) h;
      gives = rw (sub-zero n, sub-zero (length before)) (sym (put_whole before (part from (length before) all) whole));
    }

module _ {owner : List ℕ} {n o : ℕ} {store : List ℕ} {from : ℕ} {before after : List ℕ} {skip done b : ℕ}
    (m : Copying owner n o store from before after skip done b) where
  module _ (low : b < n) where
    pub copying-past : (get_or owner b 0 ≡ o → ⊥) → Copying owner n o store from before after skip done (b + 1)
    copying-past f =
        let e = ahead_past o n owner b low m.fits f in
        record { fits = m.fits; stored = m.stored; long = m.long; enough = rw e at m.enough; gives = m.gives ∙ rw e }

    module _ (here : get_or owner b 0 ≡ o) where
      block-long : length (block_octets store b) ≡ 8190
      block-long = length-block store b (omega (arith, m.stored))

      split : ahead o b n owner ≡ b ∷ ahead o (b + 1) n owner
      split = ahead-here o n owner b low m.fits here

      octets-split : joined store (ahead o b n owner) ≡ block_octets store b ++ joined store (ahead o (b + 1) n owner)
      octets-split = ap (joined store) split ∙ joined-cons store b (ahead o (b + 1) n owner)

      -- a block that is passed whole
      pub copying-over : 8190 ≤ skip → Copying owner n o store from before after (skip - 8190) done (b + 1)
      copying-over h =
          let left = length after - done in
          let later = joined store (ahead o (b + 1) n owner) in
          record {
            fits = m.fits;
            stored = m.stored;
            long = m.long;
            enough = omega (arith, m.enough, ap length split);
            gives =
                m.gives
                ∙ ap (put after done)
                (ap (part skip left) octets-split ∙ part_right (block_octets store b) later skip left (omega (arith, block-long))
                ∙ ap (λ (i : ℕ). part (skip - i) left later) block-long);
          }

      -- a block of which `size` octets are copied: to its end, or until the buffer is full
      pub copying-on : {after' : List ℕ} (size : ℕ) → skip < 8190 → size ≡ min (8190 - skip) (length after - done)
          → after' ≡ put after done (part (b * 8190 + skip) (b * 8190 + skip + size - (b * 8190 + skip)) store)
          → Copying owner n o store from before after' 0 (done + size) (b + 1)
      copying-on {after'} size h q e =
          let block = block_octets store b in
          let later = joined store (ahead o (b + 1) n owner) in
          let es = part (8190 * b + skip) size store in
          let rest = length after - (done + size) in
          let place : b * 8190 + skip ≡ 8190 * b + skip = omega arith in
          let count : b * 8190 + skip + size - (b * 8190 + skip) ≡ size = omega arith in
          let stores : after' ≡ put after done es = rw (count, place) at e in
          let same : length after' ≡ length after = ap length stores ∙ length-put after done es in
          let cut : length after - done ≡ size + rest = omega arith in
          let full : length es ≡ size = whole_part store (8190 * b + skip) size (omega (arith, m.stored)) in
          let copied : part skip size (block ++ later) ≡ es =
          part_left block later skip size (omega (arith, block-long)) ∙ part-part store (8190 * b) 8190 skip size (omega arith) in
          let left : part (skip + size) rest (block ++ later) ≡ part 0 rest later =
          part-seam block later (skip + size) rest (λ some. omega (arith, block-long)) in
          let both : part skip (length after - done) (joined store (ahead o b n owner)) ≡ es ++ part 0 rest later =
          rw (octets-split, cut) (part-add (block ++ later) skip size rest ∙ rw (copied, left)) in
          record {
            fits = m.fits;
            stored = m.stored;
            long = same ∙ m.long;
            enough = omega (arith, m.enough, ap length split);
            gives = m.gives ∙ ap (put after done) both ∙ sym (put-put es after done (part 0 rest later)) ∙ rw (full, same, stores);
          }

  -- behind the last block no octet is wanted
  pub copying-full : n ≤ b → length after ≤ done
  copying-full h = omega (arith, m.enough, ap length (ahead_none o n owner b h))

  pub copying-all : length after ≤ done → after ≡ part from (length before) (joined store (numbers_of o 0 (take n owner)))
  copying-all h =
      let z : length after - done ≡ 0 = omega arith in
      sym (m.gives ∙ rw z (put-nil after done))
