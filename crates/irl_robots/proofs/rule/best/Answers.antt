use Rattle.std.proofs.Common.{◌≡◌, arith}
use Rattle.std.proofs.lemmas.Grind.{common_steps}
use Rattle.std.specs.Option.{option_copied}
use Rattle.irl_robots.specs.Normal.{normal}
use Rattle.irl_robots.specs.Rule.{best_rule}
use Rattle.irl_robots.proofs.RuleLemmas.{lent-best, lent-none}
use Rattle.irl_robots.proofs.rule.best.Goals as goal

pub returns-in-Some-clause-best : goal.returns-in-Some-clause-best
returns-in-Some-clause-best c =
    let value : option_copied c.best_for.result ≡ best_rule c.args.rules.now (normal c.args.path.now) = grind (arith, common_steps) in
    lent-best c.args.rules.now (normal c.args.path.now) c.best_for.result value

pub returns-in-Some-clause-none : goal.returns-in-Some-clause-none
returns-in-Some-clause-none c =
    let value : option_copied c.best_for.result ≡ best_rule c.args.rules.now (normal c.args.path.now) = grind (arith, common_steps) in
    lent-none c.args.rules.now (normal c.args.path.now) c.best_for.result value

pub returns-in-None-clause-best : goal.returns-in-None-clause-best
returns-in-None-clause-best c =
    lent-best c.args.rules.now (normal c.args.path.now) c.best_for-in-None.result c.best_for-in-None.ensures

pub returns-in-None-clause-none : goal.returns-in-None-clause-none
returns-in-None-clause-none c =
    lent-none c.args.rules.now (normal c.args.path.now) c.best_for-in-None.result c.best_for-in-None.ensures
