-- A script followed command by command: what comes next, what is known of a command that goes on, and that what is left of a script gives what the
-- whole gives. Assumes nothing.
use Rattle.std.specs.Prelude.{Option, Some, None}
use mathlib.Core.Path.{◌≡◌, refl, sym, ap, ◌∙◌}
use mathlib.Core.Bool.{Bool, true, false}
use mathlib.Core.List.{List}
use Prim.Native.Nat.{ℕ, zero, suc, ◌+◌, ◌-◌, ◌≤◌, ◌<◌}
use native.Mathlib.Numerals.{add-one}
use native.Mathlib.Omega.{arith}
use borrow.Author.Tests.{lt-leb, le-leb, leb-true}
use lib.Dec.{leb}
use lib.ListN.{length, take, drop, length-drop}
use lib.Seq.{drop-drop}
use Rattle.octets.specs.Number.{part}
use Rattle.octets.specs.Buffer.{put}
use Rattle.octets.proofs.Lists.{whole_part}
use Rattle.script.specs.declared.Command.{Command}
use Rattle.script.specs.Script.{command_of}
use Rattle.script.specs.Follow.{Followed, next_by, next_of, leaves, followed_in, followed, with_text, text_left}

module _ (payload : Command → Option ℕ) where
  -- the command at place at, `&script[at..at + 16]`
  module _ (script : List ℕ) (at : ℕ) where
    pub next-short : length script - at < 16 → next_of payload (drop at script) ≡ None
    unfolding next_of
    next-short h = rw (lt-leb 16 (length (drop at script)) (omega (arith, length-drop at script)))

    pub next-whole : {x : Command} {k : ℕ} → x ≡ command_of (take (at + 16 - at) (drop at script)) → Some k ≡ payload x
        → at + 16 + k ≤ length script → Some (x, k) ≡ next_of payload (drop at script)
    unfolding next_of
    next-whole {x} {k} e q h =
        let size : at + 16 - at ≡ 16 = omega arith in
        let read : x ≡ command_of (take 16 (drop at script)) = rw size at e in
        let there : 16 + k ≤ length (drop at script) = omega (arith, length-drop at script) in
        sym (rw (le-leb 16 (length (drop at script)) (omega arith), ← read, ← q, le-leb (16 + k) (length (drop at script)) there))

  never : {x : Command} {k : ℕ} → ◌≡◌ {A = Option (Command × ℕ)} None (Some (x, k)) → ⊥
  never e = let z : ◌≡◌ {A = ℕ} 0 1 = cc in omega arith

  -- a command that goes on has its payload behind it, as long as it says
  pub record Gone (rest : List ℕ) (x : Command) (k : ℕ) : Type 0 where
    pub there : 16 + k ≤ length rest
    pub said : payload x ≡ Some k

  gone-by : (rest : List ℕ) (y : Command) (p : Option ℕ) {x : Command} {k : ℕ} → payload y ≡ p → next_by (length rest) y p ≡ Some (x, k) → Gone rest x k
  gone-by rest y None q e = absurd (never e)
  gone-by rest y (Some j) {x} {k} q e = go (leb (16 + j) (length rest)) refl
    where
      go : (b : Bool) → leb (16 + j) (length rest) ≡ b → Gone rest x k
      go true t =
          let same : ◌≡◌ {A = Option (Command × ℕ)} (Some (y, j)) (Some (x, k)) = rw t at e in
          let pair : ◌≡◌ {A = Command × ℕ} (y, j) (x, k) = cc in
          let number : j ≡ k = ap (λ (p : Command × ℕ). p.1) pair in
          let command : y ≡ x = ap (λ (p : Command × ℕ). p.0) pair in
          record { there = omega (arith, leb-true (16 + j) (length rest) t); said = rw (← command, ← number) q }
      go false t = absurd (never (rw t at e))

  gone : (rest : List ℕ) {x : Command} {k : ℕ} → next_of payload rest ≡ Some (x, k) → Gone rest x k
  unfolding next_of
  gone rest {x} {k} e = go (leb 16 (length rest)) refl
    where
      go : (b : Bool) → leb 16 (length rest) ≡ b → Gone rest x k
      go true t = gone-by rest (command_of (take 16 rest)) (payload (command_of (take 16 rest))) refl (rw t at e)
      go false t = absurd (never (rw t at e))

  module _ {M : Type 0} (does : Command → List ℕ → M → M) where
    ends : (steps : ℕ) (m : M) (n : ℕ) (rest : List ℕ) → next_of payload rest ≡ None → followed_in payload does steps m n rest ≡ leaves m n rest
    unfolding followed_in
    ends zero m n rest e = refl
    ends (suc steps) m n rest e = rw (e, followed_in)

    goes : (steps : ℕ) (m : M) (n : ℕ) (rest : List ℕ) {x : Command} {k : ℕ} → next_of payload rest ≡ Some (x, k)
        → followed_in payload does (suc steps) m n rest ≡ followed_in payload does steps (does x (part 16 k rest) m) (suc n) (drop (16 + k) rest)
    unfolding followed_in
    goes steps m n rest e = rw (e, followed_in)

    -- n commands were carried out, and the next is at place at
    pub record Following (start : M) (script : List ℕ) (now : M) (n at : ℕ) : Type 0 where
      pub within : at ≤ length script
      pub few : n ≤ at
      pub steps : ℕ
      pub enough : length script ≤ at + steps
      pub gives : followed payload does start script ≡ followed_in payload does steps now n (drop at script)

    pub following-none : (start : M) (script : List ℕ) → Following start script start 0 0
    unfolding followed
    following-none start script = record { within = omega arith; few = omega arith; steps = length script; enough = omega arith; gives = refl }

module _ {payload : Command → Option ℕ} {M : Type 0} {does : Command → List ℕ → M → M} {start : M} {script : List ℕ} {now : M} {n at : ℕ}
    (g : Following payload does start script now n at) where
  pub following-ends : {m : ℕ} → m ≡ length script - at → next_of payload (drop at script) ≡ None
      → record { memory = now; commands = n; unused = m } ≡ followed payload does start script
  following-ends {m} u e =
      let left : m ≡ length (drop at script) = omega (arith, length-drop at script) in
      ap (λ (k : ℕ). record { memory = now; commands = n; unused = k }) left
      ∙ sym (g.gives ∙ ends payload does g.steps now n (drop at script) e)

  pub following-all : length script ≤ at → record { memory = now; commands = n; unused = 0 } ≡ followed payload does start script
  following-all h = following-ends (omega (arith, g.within)) (next-short payload script at (omega arith))

  -- a command that goes on is there with its payload, `&script[at + 16..at + 16 + k]`
  pub following-there : {x : Command} {k : ℕ} → next_of payload (drop at script) ≡ Some (x, k) → at + 16 + k ≤ length script
  following-there e = omega (arith, (gone payload (drop at script) e).there, length-drop at script)

  pub following-said : {x : Command} {k : ℕ} → next_of payload (drop at script) ≡ Some (x, k)
      → payload x ≡ Some (length (part (at + 16) (at + 16 + k - (at + 16)) script))
  following-said {x} {k} e =
      let there = following-there e in
      let count : length (part (at + 16) (at + 16 + k - (at + 16)) script) ≡ k = whole_part script (at + 16) (at + 16 + k - (at + 16)) (omega arith) ∙ omega arith in
      (gone payload (drop at script) e).said ∙ ap Some (sym count)

  pub following-more : {x : Command} {k : ℕ} {after : M} → next_of payload (drop at script) ≡ Some (x, k)
      → after ≡ does x (part (at + 16) (at + 16 + k - (at + 16)) script) now
      → Following payload does start script after (n + 1) (at + 16 + k)
  following-more {x} {k} {after} e a = go g.steps g.enough g.gives
    where
      go : (steps : ℕ) → length script ≤ at + steps → followed payload does start script ≡ followed_in payload does steps now n (drop at script)
          → Following payload does start script after (n + 1) (at + 16 + k)
      go zero l f = absurd (omega (arith, following-there e))
      go (suc steps) l f =
          let count : at + 16 + k - (at + 16) ≡ k = omega arith in
          let place : at + (16 + k) ≡ at + 16 + k = omega arith in
          let told : after ≡ does x (part 16 k (drop at script)) now = rw (drop-drop 16 at script) (rw count at a) in
          record {
            within = following-there e;
            few = omega (arith, g.few);
            steps = steps;
            enough = omega arith;
            gives = f ∙ goes payload does steps now n (drop at script) e ∙ rw (← told, drop-drop (16 + k) at script, place, add-one n);
          }

-- the same of a buffer that each text is put in, at its start
module _ {payload : Command → Option ℕ} {M : Type 0} (does : Command → List ℕ → M → M) (prints : Command → List ℕ → M → List ℕ)
    {start now : M} {script before out : List ℕ} {n at : ℕ} (g : Following payload (with_text does prints) (start, before) script (now, out) n at) where
  pub text-ends : next_of payload (drop at script) ≡ None → out ≡ text_left payload does prints start script before
  unfolding text_left
  text-ends e = ap (λ (o : Followed (M × List ℕ)). o.memory.1) (following-ends g refl e)

  pub text-all : length script ≤ at → out ≡ text_left payload does prints start script before
  text-all h = text-ends (next-short payload script at (omega arith))

  pub text-more : {x : Command} {k : ℕ} {after : M} {text : List ℕ} → next_of payload (drop at script) ≡ Some (x, k)
      → after ≡ does x (part (at + 16) (at + 16 + k - (at + 16)) script) now
      → text ≡ put out 0 (prints x (part (at + 16) (at + 16 + k - (at + 16)) script) now)
      → Following payload (with_text does prints) (start, before) script (after, text) (n + 1) (at + 16 + k)
  text-more e a t = following-more g e (rw (a, t))
