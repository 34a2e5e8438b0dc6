use Rattle.std.proofs.Common.{length}
use Rattle.irl_lock.specs.Laying.{AreBins}
use Rattle.irl_lock.proofs.opening.yard_in.Given as goal

-- what is left are bins
abbrev pub invariant-loop-slot : goal.invariant-loop-slot
invariant-loop-slot g l = AreBins l.slots.items

abbrev pub decreases-loop-slot : goal.decreases-loop-slot
decreases-loop-slot g l = length l.slots.items
