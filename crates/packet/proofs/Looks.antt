-- What a look at some octets tells: that there are too few, that the header is bad, or all that is known of a good one; and that only the
-- first six octets are looked at. Assumes nothing.
use Rattle.std.specs.Prelude.{if◌then◌else◌}
use mathlib.Core.Path.{◌≡◌, refl, subst}
use mathlib.Core.Bool.{Bool, true, false}
use mathlib.Core.List.{List, ◌++◌}
use mathlib.Core.Logic.{◌⊎◌, inl, inr}
use Prim.Native.Nat.{ℕ, ◌≤◌, ◌<◌}
use native.Mathlib.Omega.{arith}
use borrow.Author.Tests.{ltb-true, ltb-false, le-ltb}
use lib.Dec.{ltb}
use lib.ListN.{length, take, length-append}
use lib.Seq.{take-append-le}
use Rattle.octets.specs.Choice.{Decides}
use Rattle.octets.proofs.Decide.{told-false, decides-same, decides-leb, decides_ltb, decides_eqb, decides_not, decides_or, ◌and◌}
use Rattle.packet.specs.declared.Packet.{Packet}
use Rattle.packet.specs.declared.Look.{Look}
use Rattle.packet.specs.declared.Look.TheVariants.{Short, Bad, Good}
use Rattle.packet.specs.Header.{packet_of, size_of, bad, look_of}
use Rattle.packet.proofs.Fields.{bounded}

-- the header p, good, in the first six of xs
pub record Header (xs : List ℕ) (p : Packet) : Type 0 where
  pub six : 6 ≤ length xs
  pub is : p ≡ packet_of xs
  pub good : bad p ≡ false
  pub version : p.version ≡ 0
  pub application : p.application.0 < 2048
  pub flags : p.flags < 4
  pub count : p.count.0 < 16384
  pub smallest : 7 ≤ size_of p
  pub largest : size_of p ≤ 8198
  -- a packet of a file has room for its check
  pub checked : p.application.0 ≤ 2015 → 9 ≤ size_of p

-- the faults of a header
pub faults : (p : Packet) → Decides (((0 < p.version) ⊎ (8191 < p.length)) ⊎ ((p.application.0 ≤ 2015) × (p.length < 2))) (bad p)
unfolding bad
faults p =
    let version : Decides (0 < p.version) _ = decides-same (λ f. omega arith) (λ h e. omega arith) (decides_not (decides_eqb p.version 0)) in
    decides_or (decides_or version (decides_ltb 8191 p.length)) (decides-leb p.application.0 2015 and decides_ltb p.length 2)

header : (xs : List ℕ) → 6 ≤ length xs → bad (packet_of xs) ≡ false → Header xs (packet_of xs)
header xs h e =
    let p = packet_of xs in
    let none = told-false (faults p) e in
    let zero : 0 < p.version → ⊥ = λ v. none (inl (inl v)) in
    let long : 8191 < p.length → ⊥ = λ l. none (inl (inr l)) in
    record {
      six = h;
      is = refl;
      good = e;
      version = omega arith;
      application = (bounded xs).application;
      flags = (bounded xs).flags;
      count = (bounded xs).count;
      smallest = omega arith;
      largest = omega arith;
      checked = λ k.
          let short : p.length < 2 → ⊥ = λ l. none (inr (k, l)) in
          omega arith;
    }

-- what each outcome tells of the octets
abbrev pub LookTells : List ℕ → Look → Type 0
LookTells xs Short = length xs < 6
LookTells xs Bad = (6 ≤ length xs) × (bad (packet_of xs) ≡ true)
LookTells xs (Good p) = Header xs p

pub look-tells : (xs : List ℕ) {l : Look} → look_of xs ≡ l → LookTells xs l
unfolding look_of
look-tells xs e = subst (LookTells xs) e (go _ _ refl refl)
  where
    go : (few spoilt : Bool) → ltb (length xs) 6 ≡ few → bad (packet_of xs) ≡ spoilt
        → LookTells xs (if few then Short else if spoilt then Bad else Good (packet_of xs))
    go true spoilt h b = ltb-true _ _ h
    go false true h b = (ltb-false _ _ h, b)
    go false false h b = header xs (ltb-false _ _ h) b

pub look-good : (xs : List ℕ) (p : Packet) → look_of xs ≡ Good p → Header xs p
look-good xs p e = look-tells xs e

pub look-bad : (xs : List ℕ) → 6 ≤ length xs → bad (packet_of xs) ≡ true → look_of xs ≡ Bad
unfolding look_of
look-bad xs h b = rw (le-ltb _ _ h, b)

-- only the first six octets are looked at
pub look-same : (xs ys : List ℕ) → 6 ≤ length xs → 6 ≤ length ys → take 6 xs ≡ take 6 ys → look_of xs ≡ look_of ys
unfolding look_of packet_of
look-same xs ys h k e = rw (le-ltb _ _ h, le-ltb _ _ k, e)

pub look-append : (xs ys : List ℕ) → 6 ≤ length xs → look_of (xs ++ ys) ≡ look_of xs
look-append xs ys h = look-same (xs ++ ys) xs (omega (arith, length-append xs ys)) h (take-append-le 6 xs ys h)
