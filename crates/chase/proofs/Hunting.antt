-- What comes of a hunt, for the whole buffer and as text. Assumes nothing.
use mathlib.Core.Path.{◌≡◌, ap, subst}
use mathlib.Core.Bool.{Bool}
use mathlib.Core.List.{List, ◌++◌}
use Prim.Native.Nat.{ℕ}
use lib.ListN.{take, drop}
use Rattle.text.specs.Pieces.{Written}
use Rattle.stream.specs.declared.Hunter.{Hunter}
use Rattle.stream.specs.Hunter.{HuntOutcome, hunt_gives, hunted}
use Rattle.script.specs.declared.Command.{Command}
use Rattle.chase.specs.Calls.{memory, went_hunting}
use Rattle.chase.specs.Printed.{as_number, check_line, hunt_line}

-- a hunt on the octets lent, `&mut buffer[..b]`
module _ (x : Command) (h : Hunter) (portion buffer : List ℕ) {answer taken : ℕ} {found : Bool} {g : Hunter} {part : List ℕ}
    (e : hunt_gives answer taken found g part ≡ hunted h portion (take x.b buffer)) where
  pub hunt-done : memory g (part ++ drop x.b buffer) ≡ went_hunting x portion (memory h buffer)
  unfolding went_hunting
  hunt-done = ap (λ (o : HuntOutcome). memory o.hunter (o.buffer ++ drop x.b buffer)) e

  -- the line, whose numbers are told one by one
  pub hunt-told : {n t f : ℕ} {before after : List ℕ} {end : ℕ} → Written before 0 (check_line 0x4E n t f (part ++ drop x.b buffer)) after end
      → n ≡ answer → t ≡ taken → f ≡ as_number found → Written before 0 (hunt_line x portion (memory h buffer)) after end
  unfolding went_hunting
  hunt-told {before = before} {after = after} {end = end} w p q r =
      subst (λ (o : HuntOutcome). Written before 0 (check_line 0x4E o.answer o.taken (as_number o.found) (o.buffer ++ drop x.b buffer)) after end) e
      (rw (p, q, r) at w)
