use Rattle.std.proofs.Common.{◌++◌, ◌+◌, map, length, sym, ap, ◌∙◌, arith}
use Rattle.std.proofs.lemmas.List.{append-nil}
use Rattle.irl_robots.specs.Lines.{line_of}
use Rattle.irl_robots.specs.Agents.{are_meant}
use Rattle.irl_robots.specs.Lines.{lines}
use Rattle.irl_robots.proofs.LinesLemmas.{length-lines}
use Rattle.irl_robots.proofs.GroupsLemmas.{gathered, gathered-outline}
use Rattle.irl_robots.proofs.groups.rules_for.Goals as goal

pub overflow_add-number : goal.overflow_add-number
overflow_add-number c =
    omega (arith, length-lines c.args.text.now, c.loop-line.invariant.counted, ap length c.in-Some.ensures.steps)

pub returns : goal.returns
returns c =
    let passes = are_meant c.args.agents in
    let rules = c.loop-line.rules.items in
    sym (append-nil rules)
    ∙ ap (λ ls. rules ++ gathered passes (c.loop-line.number + 1) c.loop-line.opening c.loop-line.meant (map line_of ls)) (sym c.in-None.ensures.steps.0)
    ∙ c.loop-line.invariant.told
    ∙ gathered-outline passes (map line_of (lines c.args.text.now))
