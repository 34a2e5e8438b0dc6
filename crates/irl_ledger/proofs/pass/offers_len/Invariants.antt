use Rattle.std.proofs.Common.{◌≡◌, ◌-◌, ◌^◌, min, sum, take}
use Rattle.irl_bay.specs.Drum.{durables}
use Rattle.irl_ledger.proofs.pass.offers_len.Given as goal

abbrev pub invariant-loop-b : goal.invariant-loop-b
invariant-loop-b l = l.count ≡ min (sum (take l.b (durables l.bay))) (2 ^ 64 - 1)
