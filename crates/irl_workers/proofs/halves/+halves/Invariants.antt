use Rattle.std.proofs.Common.{length, ◌+◌, ◌-◌, ◌*◌}
use Rattle.irl_workers.proofs.halves.+halves.Given as goal

abbrev pub decreases-work_side_by_side : goal.decreases-work_side_by_side
decreases-work_side_by_side g l = 4 * length l.workers.now

abbrev pub decreases-work_both : goal.decreases-work_both
decreases-work_both g l = 4 * (length l.workers.now + length l.other_workers.now) - 1

abbrev pub decreases-work_both-join_mut+arg2 : goal.decreases-work_both-join_mut+arg2
decreases-work_both-join_mut+arg2 g l = 4 * length l.workers.now + 1

abbrev pub decreases-work_both-join_mut+arg3 : goal.decreases-work_both-join_mut+arg3
decreases-work_both-join_mut+arg3 g l = 4 * length l.other_workers.now + 1
