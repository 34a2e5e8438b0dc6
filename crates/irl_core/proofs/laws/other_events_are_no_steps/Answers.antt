use Rattle.irl_core.proofs.Stores.{alike_steps, alike_fate, alike_pass, alike_settle, others_none, steps_one}
use Rattle.irl_core.proofs.laws.other_events_are_no_steps.Goals as goal

pub returns-clause-equally_far : goal.returns-clause-equally_far
returns-clause-equally_far c = alike_steps

pub returns-clause-fates : goal.returns-clause-fates
returns-clause-fates c = alike_fate

pub returns-clause-passes : goal.returns-clause-passes
returns-clause-passes c = alike_pass

pub returns-clause-settles : goal.returns-clause-settles
returns-clause-settles c = alike_settle

pub returns-clause-others : goal.returns-clause-others
returns-clause-others c = others_none

pub returns-clause-steps : goal.returns-clause-steps
returns-clause-steps c = steps_one
