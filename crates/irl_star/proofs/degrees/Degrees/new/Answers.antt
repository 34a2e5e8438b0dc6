use Rattle.irl_star.proofs.Counting.{counts_none}
use Rattle.irl_star.proofs.degrees.Degrees.new.Goals as goal

pub returns-clause-counts : goal.returns-clause-counts
returns-clause-counts c = rw c.new.ensures.empty counts_none
