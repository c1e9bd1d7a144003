-- `records::is_cut` meets its contract. Assumes nothing.
use native.Mathlib.Omega.{arith}
use Rattle.std.proofs.lemmas.Grind.{common_steps}
use Rattle.std.proofs.lemmas.Bool.Decides.{nat_tests}
use Rattle.records.specs.Records.{is_cut}
use Rattle.records.proofs.is_cut.Goals as goal

pub returns-then-r-lt-LEAST : goal.returns-then-r-lt-LEAST
unfolding is_cut
returns-then-r-lt-LEAST c = grind (arith, common_steps, nat_tests)

pub returns-else-r-lt-LEAST : goal.returns-else-r-lt-LEAST
unfolding is_cut
returns-else-r-lt-LEAST c = grind (arith, common_steps, nat_tests)
