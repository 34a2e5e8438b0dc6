use Rattle.irl_yard.proofs.Core.{pass_step, settle_step}
use Rattle.irl_yard.proofs.tie.events_are_steps.Goals as goal

pub returns-clause-settle : goal.returns-clause-settle
returns-clause-settle g = λ settings arrays acknowledged state outcomes keeps. settle_step settings arrays acknowledged state outcomes keeps

pub returns-clause-pass : goal.returns-clause-pass
returns-clause-pass g = λ settings arrays acknowledged state places stored keeps are. pass_step settings arrays acknowledged state stored places keeps are
