use Rattle.std.proofs.Common.{ap, ◌∙◌}
use Rattle.irl_robots.specs.Lines.{lines}
use Rattle.irl_robots.proofs.LinesLemmas.{lines-nil}
use Rattle.irl_robots.proofs.lines.LinesIterator.next.Goals as goal

pub returns-in_err-line-clause-steps : goal.returns-in_err-line-clause-steps
returns-in_err-line-clause-steps c =
    rw (c.from_residual.ensures) (ap lines c.in_err-line.ensures ∙ lines-nil, ap lines c.in_err-line.ensures ∙ lines-nil)
