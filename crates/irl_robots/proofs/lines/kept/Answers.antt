use Rattle.irl_robots.proofs.KeptLemmas.{obeyed-kept}
use Rattle.irl_robots.proofs.lines.kept.Goals as goal

pub returns-clause-obeyed : goal.returns-clause-obeyed
returns-clause-obeyed c agent = obeyed-kept c.args.body.now c.front.result.now agent c.front.ensures.value
