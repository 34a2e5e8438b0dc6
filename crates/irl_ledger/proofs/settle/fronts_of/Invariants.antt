use Rattle.std.proofs.Common.{◌≡◌, take}
use Rattle.std.specs.List.{AllByRecursion}
use Rattle.irl_bay.specs.Drum.{durables}
use Rattle.irl_log.specs.Form.{IsWord}
use Rattle.irl_ledger.proofs.settle.fronts_of.Given as goal

abbrev pub invariant-loop-b : goal.invariant-loop-b
invariant-loop-b l = record { value : l.fronts ≡ take l.b (durables l.urls); words : AllByRecursion IsWord l.fronts }
