-- When each answer to a frame is given: a refusal where its own fact holds and those of the lower numbers do not. What a good frame is.
-- Assumes nothing.
use Rattle.std.specs.Prelude.{if◌then◌else◌, Option, Some, None, Result, Ok, Err}
use mathlib.Core.Path.{◌≡◌, refl, sym, ◌∙◌, ap}
use mathlib.Core.Bool.{Bool, true, false, not}
use mathlib.Core.List.{List}
use mathlib.Core.Logic.{◌⊎◌}
use Prim.Native.Nat.{ℕ, ◌<◌, ◌≤◌}
use native.Mathlib.Omega.{arith}
use borrow.Author.Tests.{eq-eqb, ne_eqb, eqb-true, eqb-false, not-false}
use lib.Dec.{eqb}
use lib.ListN.{length}
use Rattle.octets.proofs.Lists.{if-cases}
use Rattle.refusals.specs.declared.Refusal.{Refusal}
use Rattle.refusals.specs.Refusals.{refuse}
use Rattle.frame.specs.declared.Accepted.{Accepted}
use Rattle.frame.specs.declared.Channel.{Channel}
use Rattle.frame.specs.declared.Frame.{Frame}
use Rattle.frame.specs.declared.Pointer.{Pointer}
use Rattle.frame.specs.declared.Pointer.TheVariants as pointer
use Rattle.frame.specs.Kinds.{desk_of}
use Rattle.frame.specs.Header.{marker, starts_with, derandomised, frame_of, pointer_meaning}
use Rattle.frame.specs.Refusals.{sized_and_marked, pointed, watched_by, examined_header, examined}
use Rattle.frame.proofs.Fields.{bounded}
use Rattle.frame.proofs.Framing.{framed_is, is_framed}
use Rattle.frame.proofs.Pointers.{allowed-pointer}

never : {n : ℕ} {a : Accepted} → refuse n ≡ Ok a → ⊥
never e =
    let z : ◌≡◌ {A = ℕ} 0 1 = cc in
    omega arith

-- a good answer has passed each test on the way
passed : (b : Bool) (n : ℕ) (x : Result Accepted Refusal) {a : Accepted} → (if b then refuse n else x) ≡ Ok a → (b ≡ false) × (x ≡ Ok a)
passed true n x e = absurd (never e)
passed false n x e = (refl, e)

-- a refusal of this crate has a number from 3 to 9
abbrev Numbered : Result Accepted Refusal → Type 0
Numbered (Err n) = (3 ≤ n.0) × (n.0 ≤ 9)
Numbered (Ok a) = Unit

-- what is handed on of a header, for desk d, by what its pointer means
abbrev handed : ℕ → Frame → Pointer → Accepted
handed d h p = record { desk = d; counter = h.counter; pointer = p }

-- the header h is taken, and a is what is handed on of it
pub record Accepts (craft : ℕ) (watched : List Channel) (h : Frame) (a : Accepted) : Type 0 where
  pub version : h.version ≡ 1
  pub spacecraft : h.spacecraft ≡ craft
  pub no-fill : h.channel.0 ≡ 63 → ⊥
  pub desk : desk_of watched h.channel ≡ Some a.desk
  pub allowed : pointer_meaning h.pointer ≡ pointer.Refused → ⊥
  pub counter : a.counter ≡ h.counter
  pub pointer : a.pointer ≡ pointer_meaning h.pointer

module _ (craft : ℕ) (watched : List Channel) (h : Frame) where
  pub other-version : (h.version ≡ 1 → ⊥) → examined_header craft watched h ≡ refuse 5
  unfolding examined_header
  other-version v = rw (ne_eqb _ _ v)

  module _ (v : h.version ≡ 1) where
    pub other-spacecraft : (h.spacecraft ≡ craft → ⊥) → examined_header craft watched h ≡ refuse 6
    unfolding examined_header
    other-spacecraft s = rw (eq-eqb _ _ v, ne_eqb _ _ s)

    module _ (s : h.spacecraft ≡ craft) where
      pub fill : h.channel.0 ≡ 63 → examined_header craft watched h ≡ refuse 7
      unfolding examined_header
      fill f = rw (eq-eqb _ _ v, eq-eqb _ _ s, eq-eqb _ _ f)

      module _ (f : h.channel.0 ≡ 63 → ⊥) where
        pub not-watched : desk_of watched h.channel ≡ None → examined_header craft watched h ≡ refuse 8
        unfolding examined_header
        not-watched w = rw (eq-eqb _ _ v, eq-eqb _ _ s, ne_eqb _ _ f, w)

        pub pointer-refused : (d : ℕ) → desk_of watched h.channel ≡ Some d → pointer_meaning h.pointer ≡ pointer.Refused
            → examined_header craft watched h ≡ refuse 9
        unfolding examined_header
        pointer-refused d w p = rw (eq-eqb _ _ v, eq-eqb _ _ s, ne_eqb _ _ f, w, p)

  pointed-good : (d : ℕ) (p : Pointer) → (p ≡ pointer.Refused → ⊥) → pointed d h p ≡ Ok (handed d h p)
  pointed-good d (pointer.Offset q) n = refl
  pointed-good d pointer.NoStart n = refl
  pointed-good d pointer.Refused n = absurd (n refl)

  pub accepted : (a : Accepted) → Accepts craft watched h a → examined_header craft watched h ≡ Ok a
  unfolding examined_header
  accepted a t =
      rw (eq-eqb _ _ t.version, eq-eqb _ _ t.spacecraft, ne_eqb _ _ t.no-fill, t.desk)
      (pointed-good a.desk (pointer_meaning h.pointer) t.allowed
      ∙ (λ i. Ok (record { desk = a.desk; counter = sym t.counter i; pointer = sym t.pointer i })))

  pub accepts : (a : Accepted) → examined_header craft watched h ≡ Ok a → Accepts craft watched h a
  unfolding examined_header
  accepts a e =
      let v = passed (not (eqb h.version 1)) 5 _ e in
      let s = passed (not (eqb h.spacecraft craft)) 6 _ v.1 in
      let f = passed (eqb h.channel.0 63) 7 _ s.1 in
      seated (eqb-true _ _ (not-false _ v.0)) (eqb-true _ _ (not-false _ s.0)) (eqb-false _ _ f.0) (desk_of watched h.channel) refl f.1
    where
      seated : h.version ≡ 1 → h.spacecraft ≡ craft → (h.channel.0 ≡ 63 → ⊥) → (w : Option ℕ) → desk_of watched h.channel ≡ w
          → watched_by h w ≡ Ok a → Accepts craft watched h a
      seated v s f None w g = absurd (never g)
      seated v s f (Some d) w g =
          let allowed : pointer_meaning h.pointer ≡ pointer.Refused → ⊥ = λ r. never (sym (ap (pointed d h) r) ∙ g) in
          let same : a ≡ handed d h (pointer_meaning h.pointer) = cc (pointed-good d (pointer_meaning h.pointer) allowed) in
          record {
            version = v;
            spacecraft = s;
            no-fill = f;
            desk = w ∙ ap (λ (x : Accepted). Some x.desk) (sym same);
            allowed = allowed;
            counter = ap (λ (x : Accepted). x.counter) same;
            pointer = ap (λ (x : Accepted). x.pointer) same;
          }

  pointed-numbered : (d : ℕ) (p : Pointer) → Numbered (pointed d h p)
  pointed-numbered d (pointer.Offset q) = tt
  pointed-numbered d pointer.NoStart = tt
  pointed-numbered d pointer.Refused = omega arith

  watched-numbered : (w : Option ℕ) → Numbered (watched_by h w)
  watched-numbered None = omega arith
  watched-numbered (Some d) = pointed-numbered d (pointer_meaning h.pointer)

  header-numbered : Numbered (examined_header craft watched h)
  unfolding examined_header
  header-numbered =
      if-cases Numbered (not (eqb h.version 1)) (λ t. omega arith)
      (λ v. if-cases Numbered (not (eqb h.spacecraft craft)) (λ t. omega arith)
      (λ s. if-cases Numbered (eqb h.channel.0 63) (λ t. omega arith) (λ f. watched-numbered (desk_of watched h.channel))))

module _ (craft : ℕ) (watched : List Channel) (f : List ℕ) where
  numbered : Numbered (examined craft watched f)
  unfolding examined
  numbered =
      if-cases Numbered (not (eqb (length f) 1024)) (λ t. omega arith)
      (λ s. if-cases Numbered (not (starts_with marker f)) (λ t. omega arith) (λ m. header-numbered craft watched (frame_of (derandomised f))))

  pub refusal-number : (n : ℕ) → examined craft watched f ≡ refuse n → (3 ≤ n) × (n ≤ 9)
  refusal-number n e = rw e at numbered

  pub other-size : (length f ≡ 1024 → ⊥) → examined craft watched f ≡ refuse 3
  unfolding examined
  other-size n = rw (ne_eqb _ _ n)

  pub other-marker : length f ≡ 1024 → starts_with marker f ≡ false → examined craft watched f ≡ refuse 4
  unfolding examined
  other-marker s m = rw (eq-eqb _ _ s, m)

  pub of-header : sized_and_marked f ≡ true → examined craft watched f ≡ examined_header craft watched (frame_of (derandomised f))
  unfolding examined
  of-header e =
      let t = framed_is f e in
      rw (eq-eqb _ _ t.0, t.1)

  module _ (a : Accepted) (e : examined craft watched f ≡ Ok a) where
    pub good-framed : sized_and_marked f ≡ true
    unfolding examined
    good-framed =
        let s = passed (not (eqb (length f) 1024)) 3 _ e in
        let m = passed (not (starts_with marker f)) 4 _ s.1 in
        is_framed f (eqb-true _ _ (not-false _ s.0)) (not-false _ m.0)

    pub good-size : length f ≡ 1024
    good-size = (framed_is f good-framed).0

    pub good-header : Accepts craft watched (frame_of (derandomised f)) a
    good-header = accepts craft watched (frame_of (derandomised f)) a (sym (of-header good-framed) ∙ e)

    pub counter-good : a.counter.0 < 0x1000000
    counter-good = rw good-header.counter (bounded (derandomised f)).counter

    pub pointer-good : ((frame_of (derandomised f)).pointer < 884) ⊎ ((frame_of (derandomised f)).pointer ≡ 2047)
    pointer-good = allowed-pointer _ good-header.allowed
