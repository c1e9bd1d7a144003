-- Blocks that change their owner: what becomes of the table and of each owner's blocks, and the loop that moves them. Assumes nothing.
use Rattle.std.specs.Prelude.{if◌then◌else◌}
use mathlib.Core.Path.{◌≡◌, refl, sym, ap, ◌∙◌}
use mathlib.Core.List.{List, [], ◌∷◌, ◌++◌, cons-ne-nil}
use Prim.Native.Nat.{ℕ, zero, suc, ◌+◌, ◌-◌, ◌≤◌, ◌<◌}
use native.Mathlib.Nat.{sub-zero, le_of_suc-le-suc, not-suc-le-zero}
use native.Mathlib.Numerals.{add-one}
use native.Mathlib.Decide.{ℕ_discrete}
use native.Mathlib.Omega.{arith}
use borrow.Author.Tests.{eqb-true, eqb-false}
use lib.Dec.{eqb}
use lib.ListN.{length, get_or, set, take, drop, length-append, length-set, length-take}
use lib.Seq.{
  lt-length-set,
  take_all,
  take-nil,
  drop-nil,
  drop-length,
  take-length,
  drop-cons,
  append_snoc,
  set_at,
  set-get_or,
  get_or-set_same,
  get_or-set_other,
  get_or-take,
  take-set-lt,
  drop-set-lt,
}
use Rattle.octets.specs.Number.{part}
use Rattle.octets.proofs.Below.{Below, below-tail}
use Rattle.octets.proofs.Lists.{if-cases}
use Rattle.state.specs.declared.Slot.{Slot}
use Rattle.state.specs.declared.Station.{Station}
use Rattle.state.specs.Slots.{no_file, need_of}
use Rattle.state.specs.Blocks.{numbers_of, table, free_blocks}
use Rattle.state.proofs.Blocks.{numbers-in, numbers-out, entry-low}
use Rattle.room.specs.Move.{given, with_file, opened, let_go}

-- what the table holds after blocks went to o
pub length-given : (o : ℕ) (bs t : List ℕ) → length (given o bs t) ≡ length t
unfolding given
length-given o [] t = refl
length-given o (b ∷ bs) t = length-given o bs (set t b o) ∙ length-set t b o

set-stays : (o : ℕ) (t : List ℕ) (b c : ℕ) → get_or t b 0 ≡ o → Dec (b ≡ c) → get_or (set t c o) b 0 ≡ o
set-stays o t b c e (yes q) = rw (← q, ← e, set-get_or)
set-stays o t b c e (no f) = get_or-set_other t c b o 0 f ∙ e

given_stays : (o : ℕ) (bs t : List ℕ) (b : ℕ) → get_or t b 0 ≡ o → get_or (given o bs t) b 0 ≡ o
unfolding given
given_stays o [] t b e = e
given_stays o (c ∷ bs) t b e = given_stays o bs (set t c o) b (set-stays o t b c e (ℕ_discrete b c))

pub given-in : (o : ℕ) (bs t : List ℕ) (r : ℕ) → r < length bs → get_or bs r 0 < length t → get_or (given o bs t) (get_or bs r 0) 0 ≡ o
unfolding given
given-in o [] t r h k = absurd (not-suc-le-zero h)
given-in o (b ∷ bs) t zero h k = given_stays o bs (set t b o) b (get_or-set_same t b o 0 k)
given-in o (b ∷ bs) t (suc r) h k = given-in o bs (set t b o) r (le_of_suc-le-suc h) (lt-length-set t b o k)

-- each of a list of blocks is below n
abbrev pub AllBelow : ℕ → List ℕ → Type 0
AllBelow n bs = Below (λ (r : ℕ). get_or bs r 0 < n) (length bs)

-- such blocks change the first n entries alone
module _ (n o : ℕ) where
  pub take-given : (bs t : List ℕ) → AllBelow n bs → take n (given o bs t) ≡ given o bs (take n t)
  unfolding given
  take-given [] t f = refl
  take-given (b ∷ bs) t f =
      take-given bs (set t b o) (below-tail (λ (r : ℕ). get_or (b ∷ bs) r 0 < n) f)
      ∙ ap (given o bs) (take-set-lt n t b o (f 0 (omega arith)))

  pub drop-given : (bs t : List ℕ) → AllBelow n bs → drop n (given o bs t) ≡ drop n t
  unfolding given
  drop-given [] t f = refl
  drop-given (b ∷ bs) t f =
      drop-given bs (set t b o) (below-tail (λ (r : ℕ). get_or (b ∷ bs) r 0 < n) f) ∙ drop-set-lt n t b o (f 0 (omega arith))

-- the first n entries of one owner become another's
unfoldable pub claimed : ℕ → ℕ → ℕ → List ℕ → List ℕ
claimed from to n [] = []
claimed from to zero (x ∷ t) = x ∷ t
claimed from to (suc n) (x ∷ t) = if eqb x from then to ∷ claimed from to n t else x ∷ claimed from to (suc n) t

-- how `claimed` goes along a table
data Claims (from to : ℕ) : ℕ → List ℕ → List ℕ → Type 0 where
  over : {n : ℕ} → Claims from to n [] []
  enough : {t : List ℕ} → Claims from to 0 t t
  claims : {n x : ℕ} {t u : List ℕ} → x ≡ from → Claims from to n t u → Claims from to (suc n) (x ∷ t) (to ∷ u)
  passes : {n x : ℕ} {t u : List ℕ} → (x ≡ from → ⊥) → Claims from to (suc n) t u → Claims from to (suc n) (x ∷ t) (x ∷ u)

module _ (from to : ℕ) where
  goes : (n : ℕ) (t : List ℕ) → Claims from to n t (claimed from to n t)
  unfolding claimed
  goes n [] = over
  goes zero (x ∷ t) = enough
  goes (suc n) (x ∷ t) =
      if-cases (Claims from to (suc n) (x ∷ t)) (eqb x from) (λ e. claims (eqb-true x from e) (goes n t))
      (λ e. passes (eqb-false x from e) (goes (suc n) t))

  -- the table with the first n blocks of one owner given to another is that table
  given-claims : {n : ℕ} {t u : List ℕ} → Claims from to n t u → (front : List ℕ) (i : ℕ) → length front ≡ i
      → given to (take n (numbers_of from i t)) (front ++ t) ≡ front ++ u
  unfolding given numbers_of
  given-claims {n} over front i h = rw take-nil
  given-claims enough front i h = refl
  given-claims (claims {n} {x} {t} {u} e c) front i h =
      let l : length (front ++ (to ∷ [])) ≡ suc i = length-append front (to ∷ []) ∙ omega arith in
      ap (λ (bs : List ℕ). given to (take (suc n) bs) (front ++ x ∷ t)) (numbers-in from i x t e)
      ∙ ap (given to (take n (numbers_of from (suc i) t))) (set_at front x t to i h ∙ sym (append_snoc front to t))
      ∙ given-claims c (front ++ (to ∷ [])) (suc i) l
      ∙ append_snoc front to u
  given-claims (passes {n} {x} {t} {u} f c) front i h =
      let l : length (front ++ (x ∷ [])) ≡ suc i = length-append front (x ∷ []) ∙ omega arith in
      rw (numbers-out from i x t f, ← append_snoc front x t) (given-claims c (front ++ (x ∷ [])) (suc i) l) ∙ append_snoc front x u

  -- a third owner's blocks
  claims-other : {n : ℕ} {t u : List ℕ} (o i : ℕ) → (o ≡ from → ⊥) → (o ≡ to → ⊥) → Claims from to n t u → numbers_of o i u ≡ numbers_of o i t
  unfolding numbers_of
  claims-other o i f g over = refl
  claims-other o i f g enough = refl
  claims-other o i f g (claims {n} {x} {t} {u} e c) =
      rw (numbers-out o i x t (λ q. f (sym q ∙ e)), numbers-out o i to u (λ q. g (sym q))) (claims-other o (suc i) f g c)
  claims-other o i f g (passes {n} {x} {t} {u} p c) = rw (claims-other o (suc i) f g c)

  pub given-claimed : (n : ℕ) (t : List ℕ) → given to (take n (numbers_of from 0 t)) t ≡ claimed from to n t
  given-claimed n t = given-claims (goes n t) [] 0 refl

none_first : (o i x : ℕ) (t : List ℕ) → numbers_of o i (x ∷ t) ≡ [] → (x ≡ o → ⊥) × (numbers_of o (suc i) t ≡ [])
none_first o i x t q =
    elim (ℕ_discrete x o) [
      | yes e ↦ absurd (cons-ne-nil i (numbers_of o (suc i) t) (sym (numbers-in o i x t e) ∙ q))
      | no f ↦ (f, sym (numbers-out o i x t f) ∙ q)
    ]

module _ {from to : ℕ} (ne : from ≡ to → ⊥) where
  claims-from : {n : ℕ} {t u : List ℕ} (i : ℕ) → Claims from to n t u → numbers_of from i u ≡ drop n (numbers_of from i t)
  unfolding numbers_of
  claims-from {n} i over = rw drop-nil
  claims-from i enough = refl
  claims-from i (claims {n} {x} {t} {u} e c) =
      rw (numbers-in from i x t e, numbers-out from i to u (λ q. ne (sym q))) (claims-from (suc i) c)
  claims-from i (passes {n} {x} {t} {u} f c) = rw (numbers-out from i x t f, numbers-out from i x u f) (claims-from (suc i) c)

  -- if the new owner had none before
  claims-to : {n : ℕ} {t u : List ℕ} (i : ℕ) → Claims from to n t u → numbers_of to i t ≡ [] → numbers_of to i u ≡ take n (numbers_of from i t)
  unfolding numbers_of
  claims-to {n} i over q = rw take-nil
  claims-to i enough q = q
  claims-to i (claims {n} {x} {t} {u} e c) q =
      rw (numbers-in from i x t e, numbers-in to i to u refl) (ap (λ (bs : List ℕ). i ∷ bs) (claims-to (suc i) c (none_first to i x t q).1))
  claims-to i (passes {n} {x} {t} {u} f c) q =
      let r = none_first to i x t q in
      rw (numbers-out from i x t f, numbers-out to i x u r.0) (claims-to (suc i) c r.1)

  claims-count : {n : ℕ} {t u : List ℕ} (i : ℕ) → Claims from to n t u
      → length (numbers_of to i u) ≡ length (take n (numbers_of from i t)) + length (numbers_of to i t)
  unfolding numbers_of
  claims-count {n} i over = rw take-nil
  claims-count i enough = omega arith
  claims-count i (claims {n} {x} {t} {u} e c) =
      rw (numbers-in from i x t e, numbers-in to i to u refl, numbers-out to i x t (λ q. ne (sym e ∙ q))) (omega (arith, claims-count (suc i) c))
  claims-count i (passes {n} {x} {t} {u} f c) =
      elim (ℕ_discrete x to) [
        | yes e ↦ rw (numbers-out from i x t f, numbers-in to i x u e, numbers-in to i x t e) (omega (arith, claims-count (suc i) c))
        | no g ↦ rw (numbers-out from i x t f, numbers-out to i x u g, numbers-out to i x t g) (claims-count (suc i) c)
      ]

-- the first n blocks, rising, of one owner go to another
abbrev pub moved : ℕ → ℕ → ℕ → List ℕ → List ℕ
moved from to n t = given to (take n (numbers_of from 0 t)) t

-- whose blocks are whose then
module _ {from to : ℕ} (ne : from ≡ to → ⊥) (n : ℕ) (t : List ℕ) where
  pub moved-from : numbers_of from 0 (moved from to n t) ≡ drop n (numbers_of from 0 t)
  moved-from = ap (numbers_of from 0) (given-claimed from to n t) ∙ claims-from ne 0 (goes from to n t)

  pub moved_to : numbers_of to 0 t ≡ [] → numbers_of to 0 (moved from to n t) ≡ take n (numbers_of from 0 t)
  moved_to q = ap (numbers_of to 0) (given-claimed from to n t) ∙ claims-to ne 0 (goes from to n t) q

  pub moved-count : length (numbers_of to 0 (moved from to n t)) ≡ length (take n (numbers_of from 0 t)) + length (numbers_of to 0 t)
  moved-count = ap (λ (u : List ℕ). length (numbers_of to 0 u)) (given-claimed from to n t) ∙ claims-count ne 0 (goes from to n t)

module _ (from to n : ℕ) (t : List ℕ) where
  pub moved_other : (o : ℕ) → (o ≡ from → ⊥) → (o ≡ to → ⊥) → numbers_of o 0 (moved from to n t) ≡ numbers_of o 0 t
  moved_other o f g = ap (numbers_of o 0) (given-claimed from to n t) ∙ claims-other from to o 0 f g (goes from to n t)

  pub moved_all : length (numbers_of from 0 t) ≤ n → moved from to n t ≡ given to (numbers_of from 0 t) t
  moved_all h = ap (λ (bs : List ℕ). given to bs t) (take_all n (numbers_of from 0 t) h)

-- all of them
module _ (from to : ℕ) (t : List ℕ) where
  all : given to (numbers_of from 0 t) t ≡ moved from to (length (numbers_of from 0 t)) t
  all = sym (moved_all from to (length (numbers_of from 0 t)) t (omega arith))

  pub given-all-other : (o : ℕ) → (o ≡ from → ⊥) → (o ≡ to → ⊥) → numbers_of o 0 (given to (numbers_of from 0 t) t) ≡ numbers_of o 0 t
  given-all-other o f g = ap (numbers_of o 0) all ∙ moved_other from to (length (numbers_of from 0 t)) t o f g

  pub given-all-from : (from ≡ to → ⊥) → numbers_of from 0 (given to (numbers_of from 0 t) t) ≡ []
  given-all-from ne = ap (numbers_of from 0) all ∙ moved-from ne (length (numbers_of from 0 t)) t ∙ drop-length (numbers_of from 0 t)

  pub given-all-count : (from ≡ to → ⊥)
      → length (numbers_of to 0 (given to (numbers_of from 0 t) t)) ≡ length (numbers_of from 0 t) + length (numbers_of to 0 t)
  given-all-count ne =
      ap (λ (u : List ℕ). length (numbers_of to 0 u)) all ∙ moved-count ne (length (numbers_of from 0 t)) t
      ∙ ap (λ (bs : List ℕ). length bs + length (numbers_of to 0 t)) (take-length (numbers_of from 0 t))

-- blocks of the first m entries of a table are below m
pub numbers-below : (o m : ℕ) (t : List ℕ) → AllBelow m (numbers_of o 0 (take m t))
numbers-below o m t r h = omega (arith, entry-low o (take m t) r h, length-take m t)

pub below-take : (n m : ℕ) (bs : List ℕ) → AllBelow m bs → AllBelow m (take n bs)
below-take n m bs f r h =
    let l = length-take n bs in
    rw (get_or-take n bs r 0 (omega arith)) (f r (omega arith))

-- the blocks of owner o from block b on, among the first n of a table: what a walk along it has left
abbrev pub ahead : ℕ → ℕ → ℕ → List ℕ → List ℕ
ahead o b n t = numbers_of o b (part b (n - b) t)

module _ (o n : ℕ) (t : List ℕ) where
  pub ahead_none : (b : ℕ) → n ≤ b → ahead o b n t ≡ []
  unfolding numbers_of
  ahead_none b h =
      let z : n - b ≡ 0 = omega arith in
      rw z

  module _ (b : ℕ) (low : b < n) (fits : n ≤ length t) where
    ahead-next : part b (n - b) t ≡ get_or t b 0 ∷ part (suc b) (n - suc b) t
    ahead-next =
        let m : n - b ≡ suc (n - suc b) = omega arith in
        rw (m, drop-cons t b 0 (omega arith))

    pub ahead-here : get_or t b 0 ≡ o → ahead o b n t ≡ b ∷ ahead o (b + 1) n t
    ahead-here e = rw (add-one, ahead-next) (numbers-in o b (get_or t b 0) (part (suc b) (n - suc b) t) e)

    pub ahead_past : (get_or t b 0 ≡ o → ⊥) → ahead o b n t ≡ ahead o (b + 1) n t
    ahead_past f = rw (add-one, ahead-next) (numbers-out o b (get_or t b 0) (part (suc b) (n - suc b) t) f)

-- the loop that moves blocks: block b is next, `still` are to be moved, and what is left to do gives what was wanted
pub record Moving (n from to count : ℕ) (before after : List ℕ) (still b : ℕ) : Type 0 where
  pub within : b ≤ n
  pub fits : n ≤ length after
  pub gives : given to (take count (numbers_of from 0 (take n before))) before ≡ given to (take still (ahead from b n after)) after

pub moving-first : (n from to count : ℕ) (before : List ℕ) (size : ℕ) → length before ≡ size → n ≤ size
    → Moving n from to count before before count 0
moving-first n from to count before size l h = record { within = omega arith; fits = omega arith; gives = rw sub-zero }

module _ {n from to count : ℕ} {before after : List ℕ} {still b : ℕ} (m : Moving n from to count before after still b) where
  module _ (low : b < n) where
    pub moving-on : (still ≡ 0 → ⊥) → get_or after b 0 ≡ from → Moving n from to count before (set after b to) (still - 1) (b + 1)
    unfolding given
    moving-on some e =
        let k : still ≡ suc (still - 1) = omega arith in
        record {
          within = omega arith;
          fits = rw length-set m.fits;
          gives =
              m.gives
              ∙ rw (ahead-here from n after b low m.fits e, drop-set-lt (b + 1) after b to (omega arith))
              (ap (λ (j : ℕ). given to (take j (b ∷ ahead from (b + 1) n after)) after) k);
        }

    pub moving-past : (get_or after b 0 ≡ from → ⊥) → Moving n from to count before after still (b + 1)
    moving-past f = record { within = omega arith; fits = m.fits; gives = m.gives ∙ rw (ahead_past from n after b low m.fits f) }

  pub moving-none : still ≡ 0 → after ≡ given to (take count (numbers_of from 0 (take n before))) before
  unfolding given
  moving-none e = sym (m.gives ∙ rw e)

  pub moving-all : n ≤ b → after ≡ given to (take count (numbers_of from 0 (take n before))) before
  unfolding given
  moving-all h = sym (m.gives ∙ rw (ahead_none from n after b h, take-nil))

-- the loop that frees all blocks of an owner: block b is next, and what is left to do gives what was wanted
pub record Freeing (n from : ℕ) (before after : List ℕ) (b : ℕ) : Type 0 where
  pub within : b ≤ n
  pub fits : n ≤ length after
  pub gives : given 0 (numbers_of from 0 (take n before)) before ≡ given 0 (ahead from b n after) after

pub freeing-first : (n from : ℕ) (before : List ℕ) (size : ℕ) → length before ≡ size → n ≤ size → Freeing n from before before 0
freeing-first n from before size l h = record { within = omega arith; fits = omega arith; gives = rw sub-zero }

module _ {n from : ℕ} {before after : List ℕ} {b : ℕ} (m : Freeing n from before after b) where
  module _ (low : b < n) where
    freeing-here : get_or after b 0 ≡ from → Freeing n from before (set after b 0) (b + 1)
    unfolding given
    freeing-here e =
        record {
          within = omega arith;
          fits = rw length-set m.fits;
          gives = m.gives ∙ rw (ahead-here from n after b low m.fits e, drop-set-lt (b + 1) after b 0 (omega arith));
        }

    freeing-past : (get_or after b 0 ≡ from → ⊥) → Freeing n from before (set after b (get_or after b 0)) (b + 1)
    freeing-past f =
        rw set-get_or
        (record { within = omega arith; fits = m.fits; gives = m.gives ∙ rw (ahead_past from n after b low m.fits f) })

    pub freeing-on : {o : ℕ} → o ≡ (if eqb (get_or after b 0) from then 0 else get_or after b 0) → Freeing n from before (set after b o) (b + 1)
    freeing-on e =
        rw e
        (if-cases (λ (o : ℕ). Freeing n from before (set after b o) (b + 1)) (eqb (get_or after b 0) from)
        (λ q. freeing-here (eqb-true (get_or after b 0) from q)) (λ q. freeing-past (eqb-false (get_or after b 0) from q)))

  pub freeing-all : n ≤ b → after ≡ given 0 (numbers_of from 0 (take n before)) before
  unfolding given
  freeing-all h = sym (m.gives ∙ rw (ahead_none from n after b h))

-- what the two functions that move blocks leave
module _ (s : Station) (k : ℕ) (x : Slot) {owner : List ℕ} where
  pub is-opened : (n : ℕ) → n ≡ need_of x → owner ≡ given (k + 1) (take n (free_blocks s)) s.owner → with_file s owner k x ≡ opened s k x
  unfolding opened
  is-opened n q e = rw (e, q, add-one)

  pub is-let_go : x ≡ no_file → owner ≡ given 0 (numbers_of (k + 1) 0 (table s)) s.owner → with_file s owner k x ≡ let_go s k
  unfolding let_go
  is-let_go q e = rw (e, q, add-one)
