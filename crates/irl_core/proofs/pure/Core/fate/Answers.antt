use Rattle.std.proofs.Common.{◌∙◌, ap}
use Rattle.irl_fate.specs.Fates.{fate_of}
use Rattle.irl_core.specs.Kept.{shown}
use Rattle.irl_core.specs.Steps.{CoreState, course}
use Rattle.irl_core.proofs.Stores.{alike_fate}
use Rattle.irl_core.proofs.pure.Core.fate.Goals as goal

pub returns : goal.returns
returns c =
    c.fate.ensures ∙ alike_fate c.self.inside.fates (course (shown c.self.inside)) c.args.number c.self.invariant.fates.alike
    ∙ ap (λ (x : CoreState). fate_of (course x) c.args.number) c.self.view_is
