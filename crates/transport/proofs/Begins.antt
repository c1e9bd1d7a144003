-- What the data of a packet begins, once it is long enough to say. Assumes nothing.
use Rattle.std.specs.Prelude.{if◌then◌else◌, Some, None}
use mathlib.Core.Path.{◌≡◌, refl}
use mathlib.Core.Bool.{Bool, true, false, ◌&&◌, ◌||◌}
use mathlib.Core.List.{List}
use Prim.Native.Nat.{ℕ, ◌≤◌}
use borrow.Author.Tests.{le-ltb}
use lib.Dec.{eqb}
use lib.ListN.{length}
use Rattle.transport.specs.declared.Transport.{Transport}
use Rattle.transport.specs.Length.{transport_of, good_length}
use Rattle.transport.specs.Shape.{first_fits, whole_fits, begun_of}

either : {A : Type 0} (a b : Bool) (x y : A) → (if a || b then x else y) ≡ (if a then x else if b then x else y)
either true b x y = refl
either false b x y = refl

pub length-wrong : (flags : ℕ) (d : List ℕ) {t : Transport} → 10 ≤ length d → t ≡ transport_of d
    → good_length t.bits ≡ false → None ≡ begun_of flags d
unfolding begun_of
length-wrong flags d long is bad = rw (le-ltb _ _ long, ← is, bad)

-- data with a good length, of which only the shape is left to judge
pub record LengthRight (d : List ℕ) (t : Transport) : Type 0 where
  pub long : 10 ≤ length d
  pub is : t ≡ transport_of d
  pub good : good_length t.bits ≡ true

pub shape-decides : (flags : ℕ) {d : List ℕ} {t : Transport} → LengthRight d t
    → (shape : Bool) → shape ≡ (eqb flags 1 && first_fits (length d) t.bits || eqb flags 3 && whole_fits (length d) t.bits)
    → (if shape then Some t else None) ≡ begun_of flags d
unfolding begun_of
shape-decides flags d shape e = rw (le-ltb _ _ d.long, ← d.is, d.good, e, either)
