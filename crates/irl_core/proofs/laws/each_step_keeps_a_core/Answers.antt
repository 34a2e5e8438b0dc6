use Rattle.irl_core.proofs.Keeping.{new_kept, step_kept, steps_kept, core_kept}
use Rattle.irl_core.proofs.laws.each_step_keeps_a_core.Goals as goal

pub returns-clause-new : goal.returns-clause-new
returns-clause-new c = new_kept

pub returns-clause-step : goal.returns-clause-step
returns-clause-step c = step_kept

pub returns-clause-steps : goal.returns-clause-steps
returns-clause-steps c = steps_kept

pub returns-clause-all : goal.returns-clause-all
returns-clause-all c = core_kept
