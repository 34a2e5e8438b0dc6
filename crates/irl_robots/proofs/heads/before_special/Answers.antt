use Rattle.std.proofs.Common.{sym}
use Rattle.irl_robots.specs.Heads.{is_special}
use Rattle.irl_robots.proofs.LinesLemmas.{before-Some, before-None}
use Rattle.irl_robots.proofs.heads.before_special.Goals as goal

pub returns-in-Some : goal.returns-in-Some
returns-in-Some c = before-Some is_special c.args.pattern.now c.in-Some.at (sym c.in-Some.ensures)

pub returns-in-None : goal.returns-in-None
returns-in-None c = before-None is_special c.args.pattern.now (sym c.in-None.ensures)
