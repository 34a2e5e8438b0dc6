use Rattle.irl_reach.proofs.Settled.{done_settled, settled_done}
use Rattle.irl_reach.proofs.laws.what_is_settled_is_done.Goals as goal

pub returns-clause-settled : goal.returns-clause-settled
returns-clause-settled c = λ settings state number outcome is. settled_done settings state is number outcome

pub returns-clause-done : goal.returns-clause-done
returns-clause-done c = λ settings state number outcome. done_settled settings.queues settings.buckets state.events number outcome
