use Rattle.irl_beast.proofs.Reserving.{RoomsBelow}
use Rattle.irl_beast.proofs.plan.rooms.Given as goal

-- the lists so far have theirs
abbrev pub invariant-loop-at : goal.invariant-loop-at
invariant-loop-at l = RoomsBelow l.lengths l.more l.rooms.items l.at
