use Rattle.std.proofs.lemmas.List.{take_rest}
use Rattle.irl_robots.proofs.RunsLemmas.{literal-all, split-at}
use Rattle.irl_robots.proofs.runs.split_star.Goals as goal

pub returns-in-Some : goal.returns-in-Some
returns-in-Some c =
    let p = c.args.pattern.now in
    let star = c.in-Some.star in
    rw take_rest (split-at p star c.in-Some.ensures)

pub returns-in-None : goal.returns-in-None
returns-in-None c = literal-all c.args.pattern.now c.in-None.ensures
