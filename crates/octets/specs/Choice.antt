-- What it means that a test decides a fact. Assumes nothing.
use Rattle.std.specs.Prelude.{Bool, true, false}

-- the answer r of a test is true exactly if P holds
pub data Decides (P : Type 0) : Bool → Type 0 where
  holds : P → Decides P true
  fails : (P → ⊥) → Decides P false
