use Rattle.irl_fate.proofs.Sums.{fates_add_up, outcomes_add_up, front_long, done_long}
use Rattle.irl_fate.proofs.laws.counts_add_up.Goals as goal

pub returns-clause-fates : goal.returns-clause-fates
returns-clause-fates c = fates_add_up

pub returns-clause-outcomes : goal.returns-clause-outcomes
returns-clause-outcomes c = outcomes_add_up

pub returns-clause-front : goal.returns-clause-front
returns-clause-front c = front_long

pub returns-clause-done : goal.returns-clause-done
returns-clause-done c = done_long
