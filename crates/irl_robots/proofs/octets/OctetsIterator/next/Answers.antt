use Rattle.std.proofs.Common.{ap, ◌∙◌}
use Rattle.irl_robots.specs.Normal.{normal}
use Rattle.irl_robots.proofs.NormalLemmas.{normal-nil}
use Rattle.irl_robots.proofs.octets.OctetsIterator.next.Goals as goal

pub returns-in_err-unit-in-Nothing-clause-steps : goal.returns-in_err-unit-in-Nothing-clause-steps
returns-in_err-unit-in-Nothing-clause-steps c =
    rw (c.from_residual.ensures, c.in-Nothing.is) (ap normal c.in_err-unit-in-Nothing.ensures ∙ normal-nil, ap normal c.in_err-unit-in-Nothing.ensures ∙ normal-nil)
