use Rattle.irl_core.proofs.Bounds.{steps_cap, steps_pending}
use Rattle.irl_core.proofs.laws.lists_stay_within_bounds.Goals as goal

pub returns-clause-cap : goal.returns-clause-cap
returns-clause-cap c = steps_cap

pub returns-clause-pending : goal.returns-clause-pending
returns-clause-pending c = steps_pending
