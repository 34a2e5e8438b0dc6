use Rattle.irl_reach.proofs.Reaching.{one_due, some_due}
use Rattle.irl_reach.proofs.laws.one_outcome_a_url.Goals as goal

pub returns-clause-some : goal.returns-clause-some
returns-clause-some c = some_due

pub returns-clause-one : goal.returns-clause-one
returns-clause-one c = one_due
