use Rattle.std.proofs.Common.{◌≡◌, take}
use Rattle.std.specs.List.{AllByRecursion}
use Rattle.irl_log.specs.Form.{IsDone}
use Rattle.irl_ledger.specs.Settling.{outcomes_of}
use Rattle.irl_ledger.proofs.settle.settled.Given as goal

abbrev pub invariant-loop-one : goal.invariant-loop-one
invariant-loop-one l = record { value : l.settled ≡ outcomes_of (take l.one-index l.done); form : AllByRecursion IsDone l.settled }
