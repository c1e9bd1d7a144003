-- A run from its beginning to its line: what is counted over all portions is what the stream has that they make up. Assumes nothing.
use mathlib.Core.Path.{◌≡◌, refl, sym, ap, ◌∙◌, subst}
use mathlib.Core.List.{List, [], ◌∷◌, ◌++◌}
use Prim.Native.Nat.{ℕ, ◌+◌, ◌*◌, ◌≤◌, ◌<◌}
use native.Mathlib.Decide.{dec_lt}
use native.Mathlib.Omega.{arith}
use lib.ListN.{length, length-append}
use Rattle.octets.specs.Buffer.{put}
use Rattle.stream.specs.declared.Hunter.{Hunter}
use Rattle.stream.specs.declared.Begun.{Begun}
use Rattle.stream.specs.Stream.{cut, over_in, frames_of, waiting_of}
use Rattle.stream.specs.Hunter.{holding, begun_by}
use Rattle.stream.specs.Feed.{Fed, feed}
use Rattle.stream.proofs.Sounding.{k-holding, waiting-holding}
use Rattle.stream.proofs.Feeding.{fed-further}
use Rattle.stream.proofs.Promised.{promises}
use Rattle.hunt.specs.declared.Tally.{Tally}
use Rattle.hunt.specs.Said.{refusal_line, end_line, stream_line, Tells}
use Rattle.hunt.specs.Said.Says.{refused, ended}
use Rattle.hunt.specs.Tally.{Fresh, Tallied}

-- ---- beginning

-- a hunter that was begun with k
pub record BegunWith (k : ℕ) (h : Hunter) : Type 0 where
  pub fresh : Fresh h
  pub same : h.k ≡ k

with-k : (k : ℕ) {h : Hunter} → k ≤ 3 → h ≡ holding k [] → BegunWith k h
with-k k {h} l e =
    let same : h.k ≡ k = ap (λ (g : Hunter). g.k) e ∙ k-holding k [] in
    record { fresh = record { limit = omega arith; form = e ∙ ap (λ (j : ℕ). holding j []) (sym same) }; same = same }

module _ (k : ℕ) {b : Begun} (e : b ≡ begun_by k) where
  pub begun-well : b.answer ≡ 0 → BegunWith k b.hunter
  begun-well z =
      elim (dec_lt 3 k) [
        | yes over ↦ absurd (omega (arith, ap (λ (r : Begun). r.answer) (e ∙ (promises.begins k).over-3 over)))
        | no good ↦ with-k k (omega arith) (ap (λ (r : Begun). r.hunter) (e ∙ (promises.begins k).good (omega arith)))
      ]

  pub begun-ill : (b.answer ≡ 0 → ⊥) → (3 < k) × (b.answer ≡ 15)
  begun-ill z =
      elim (dec_lt 3 k) [
        | yes over ↦ (over, ap (λ (r : Begun). r.answer) (e ∙ (promises.begins k).over-3 over))
        | no good ↦ absurd (z (ap (λ (r : Begun). r.answer) (e ∙ (promises.begins k).good (omega arith))))
      ]

-- ---- portion by portion

-- the portions so far make up a stream, whose octets and frames were counted, and the hunter holds what waits of it
pub record Following (k : ℕ) (t : Hunter) (all : Tally) : Type 0 where
  pub tallied : Tallied k all
  pub holds : t ≡ holding k (waiting_of k tallied.stream)

empty : {A : Type 0} (xs : List A) → length xs ≡ 0 → xs ≡ []
empty [] e = refl
empty (x ∷ xs) e = absurd (omega arith)

pub first : {h : Hunter} → Fresh h → Following h.k h (record { read = 0; frames = 0; waiting = 0 })
first {h} f =
    let none = (promises.nothing-lost h.k []).counted in
    record {
      tallied = record { stream = []; read = refl; frames = omega (arith, none); waiting = omega (arith, none) };
      holds = f.form ∙ ap (holding h.k) (sym (empty (waiting_of h.k []) (omega (arith, none))));
    }

-- a portion of n octets more, in which m frames were found, and behind which w octets wait
abbrev pub more : Tally → ℕ → ℕ → ℕ → Tally
more all n m w = record { read = all.read + n; frames = all.frames + m; waiting = w }

module _ {k : ℕ} {t : Hunter} {all : Tally} (g : Following k t all) (x unit : List ℕ) {h : Hunter} {n m : ℕ} where
  pub further : h ≡ (feed t x unit).hunter → m ≡ length (feed t x unit).frames → k ≤ 3 → length unit ≡ 1024 → n ≡ length x
      → Following k h (more all n m h.waiting)
  further e f l room size =
      let s = g.tallied.stream in
      let fed = feed (holding k (waiting_of k s)) x unit in
      let same : feed t x unit ≡ fed = ap (λ (t : Hunter). feed t x unit) g.holds in
      let r = fed-further k s x unit l room in
      let held : h ≡ holding k (waiting_of k (s ++ x)) = e ∙ ap (λ (o : Fed). o.hunter) same ∙ r.hunter in
      let found : m ≡ length fed.frames = f ∙ ap (λ (o : Fed). length o.frames) same in
      record {
        tallied = record {
          stream = s ++ x;
          read = omega (arith, g.tallied.read, length-append s x);
          frames = omega (arith, g.tallied.frames, ap length r.frames, length-append (frames_of k s) fed.frames);
          waiting = ap (λ (h : Hunter). h.waiting) held ∙ waiting-holding k (waiting_of k (s ++ x));
        };
        holds = held;
      }

-- ---- the end

module _ {k : ℕ} {t : Tally} (g : Tallied k t) where
  all-counted : over_in (cut k g.stream).pieces + 1024 * t.frames + t.waiting ≡ t.read
  all-counted = omega (arith, g.read, g.frames, g.waiting, (promises.nothing-lost k g.stream).counted)

  -- the difference that `passed_over` takes does not go below 0
  pub no_more : 1024 * t.frames + t.waiting ≤ t.read
  no_more = omega (arith, all-counted)

  -- what is neither in a frame nor waits was passed over, so that the line is the stream's
  pub tells : (over : ℕ) {j : ℕ} {before after : List ℕ} → k ≡ j → k ≤ 3 → over + 1024 * t.frames + t.waiting ≡ t.read
      → after ≡ put before 0 (end_line t.frames over t.waiting) → Tells j before after
  tells over {j} {before} {after} s l e w =
      let same : over ≡ over_in (cut k g.stream).pieces = omega (arith, all-counted) in
      subst (λ (i : ℕ). Tells i before after) s
      (record { line = stream_line k g.stream; says = ended l g.stream; holds = rw (same, g.frames, g.waiting) at w })

-- the line of the refusal
pub tells-15 : {k answer : ℕ} {before after : List ℕ} → 3 < k → answer ≡ 15 → after ≡ put before 0 (refusal_line answer) → Tells k before after
tells-15 l e w = record { line = refusal_line 15; says = refused l; holds = rw e at w }
