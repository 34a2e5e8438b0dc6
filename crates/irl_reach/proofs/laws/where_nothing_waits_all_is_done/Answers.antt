use Rattle.irl_reach.proofs.Waits.{all_done, none_waits}
use Rattle.irl_reach.proofs.laws.where_nothing_waits_all_is_done.Goals as goal

pub returns-clause-waits : goal.returns-clause-waits
returns-clause-waits c = none_waits

pub returns-clause-done : goal.returns-clause-done
returns-clause-done c = all_done
