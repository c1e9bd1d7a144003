-- `drive::calls::let_file_go` meets its contract. Assumes nothing.
use mathlib.Core.Path.{ap}
use native.Mathlib.Omega.{arith}
use Rattle.station.specs.declared.LetGo.{LetGo}
use Rattle.script.specs.Memory.{memory, with_state}
use Rattle.drive.specs.Calls.{was_let_go}
use Rattle.drive.proofs.calls.let_file_go.Goals as goal

pub returns : goal.returns
unfolding was_let_go
returns c =
    let a = c.let_file_go-a.ensures in
    let line = c.let_go_line.ensures in record {
      by_index = (λ desks store. ap (λ (o : LetGo). with_state (memory c.args.w desks store) o.station) a);
      end_bound = (omega (arith, line.0), rw a at line.1);
    }
