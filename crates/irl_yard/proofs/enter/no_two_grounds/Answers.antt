use Rattle.irl_head.proofs.Grounds.{ours_or_other, ours_or_bad, other_or_bad}
use Rattle.irl_yard.proofs.Grounds.{ours_or_damaged, other_or_damaged, bad_or_damaged}
use Rattle.irl_yard.proofs.enter.no_two_grounds.Goals as goal

pub returns-clause-ours_or_damaged : goal.returns-clause-ours_or_damaged
returns-clause-ours_or_damaged g = ours_or_damaged

pub returns-clause-ours_or_other : goal.returns-clause-ours_or_other
returns-clause-ours_or_other g = ours_or_other

pub returns-clause-ours_or_bad : goal.returns-clause-ours_or_bad
returns-clause-ours_or_bad g = ours_or_bad

pub returns-clause-other_or_damaged : goal.returns-clause-other_or_damaged
returns-clause-other_or_damaged g = other_or_damaged

pub returns-clause-bad_or_damaged : goal.returns-clause-bad_or_damaged
returns-clause-bad_or_damaged g = bad_or_damaged

pub returns-clause-other_or_bad : goal.returns-clause-other_or_bad
returns-clause-other_or_bad g = other_or_bad
