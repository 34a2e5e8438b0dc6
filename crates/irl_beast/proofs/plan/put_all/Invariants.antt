use Rattle.irl_beast.proofs.Reserving.{PutBelow}
use Rattle.irl_beast.proofs.plan.put_all.Given as goal

-- the lists so far have theirs
abbrev pub invariant-loop-at : goal.invariant-loop-at
invariant-loop-at l = PutBelow l.fn.lists l.fn.more l.fn.rooms l.lists l.more l.rooms l.at
