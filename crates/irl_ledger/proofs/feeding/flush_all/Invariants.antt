use Rattle.std.proofs.Common.{◌≡◌, true}
use Rattle.irl_schedule.proofs.Finishing.{SoFar}
use Rattle.irl_schedule.specs.Arrays.{AreArrays}
use Rattle.irl_ledger.specs.Running.{StaysOpen, moment_with}
use Rattle.irl_ledger.proofs.feeding.flush_all.Given as goal

abbrev pub invariant-loop-b : goal.invariant-loop-b
invariant-loop-b g l = SoFar l.b (moment_with (g.S.Store.told l.initial.store) l.initial.bay l.initial.arrays) (moment_with (g.S.Store.told l.store) l.bay l.arrays)
    × AreArrays l.bay.settings l.arrays × (l.bay.is_sound ≡ true) × StaysOpen ⊥ l.bay (g.S.Store.told l.store)
