use Rattle.irl_robots.proofs.RunsLemmas.{ends-with}
use Rattle.irl_robots.proofs.runs.is_end.Goals as goal

pub returns-then-run-path : goal.returns-then-run-path
returns-then-run-path c = ends-with c.args.path.now c.args.run.now c.eq.result c.if-run-path.true (c.eq.ensures)
