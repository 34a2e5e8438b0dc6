use Rattle.std.proofs.Common.{sym, eqb}
use Rattle.irl_robots.proofs.LinesLemmas.{before-Some, before-None}
use Rattle.irl_robots.proofs.lines.without_comment.Goals as goal

pub returns-in-Some : goal.returns-in-Some
returns-in-Some c = before-Some (λ b. eqb b 35) c.args.line.now c.in-Some.at (sym c.in-Some.ensures)

pub returns-in-None : goal.returns-in-None
returns-in-None c = before-None (λ b. eqb b 35) c.args.line.now (sym c.in-None.ensures)
