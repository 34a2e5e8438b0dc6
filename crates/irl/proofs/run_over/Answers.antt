-- The run over a store that tells its faults alone, and keeps the first.
use Rattle.std.proofs.Common.{Option, sym, subst}
use Rattle.std.specs.Prelude.{IsSome}
use Rattle.irl_files.specs.declared.failure.Failure.{Failure}
use Rattle.irl.proofs.run_over.Goals as goal

pub returns : goal.returns
returns g c =
    let failures = c.run-status.result.1.failures in
    record {
      faults = failures.count;
      runs = rw (c.folder_and_command.ensures.command, c.requires.faults) at c.run-status.ensures;
      told = λ some. subst (λ (o : Option Failure). IsSome o) (sym c.first_failure.ensures) (failures.told some);
    }
