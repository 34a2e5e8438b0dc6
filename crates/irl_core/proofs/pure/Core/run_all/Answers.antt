use Rattle.std.proofs.Common.{◌∙◌, ap, sym}
use Rattle.irl_core.specs.Steps.{CoreState, new_core, step}
use Rattle.irl_core.proofs.Keeping.{steps_more}
use Rattle.irl_core.proofs.pure.Core.run_all.Goals as goal

pub loop-step-preserved : goal.loop-step-preserved
loop-step-preserved c =
    c.in_ok-step.ensures.state ∙ ap (λ (x : CoreState). (step x c.in-Some.step).0) c.loop-step.invariant
    ∙ sym (steps_more (new_core c.args.settings) c.loop-step.yielded c.in-Some.step)
