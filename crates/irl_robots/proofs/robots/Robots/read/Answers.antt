use Rattle.std.proofs.Common.{List, map, subst, sym}
use Rattle.std.specs.List.{All}
use Rattle.std.specs.List.Sorted.{IsStrictlyIncreasing}
use Rattle.irl_robots.specs.declared.rule.PathRule.{PathRule}
use Rattle.irl_robots.specs.Numbered.{IsOfLine, said_by}
use Rattle.irl_robots.proofs.NumberedLemmas.{obeyed-lines, obeyed-increasing}
use Rattle.irl_robots.proofs.robots.Robots.read.Goals as goal

pub returns-clause-lines : goal.returns-clause-lines
returns-clause-lines c =
    subst (λ (rules : List PathRule). All (IsOfLine (said_by c.args.bytes.now)) rules) (sym c.in_ok-rules.ensures)
    (obeyed-lines c.args.bytes.now c.args.agent.now)

pub returns-clause-order : goal.returns-clause-order
returns-clause-order c =
    subst (λ (rules : List PathRule). IsStrictlyIncreasing (map (λ (r : PathRule). r.line) rules)) (sym c.in_ok-rules.ensures)
    (obeyed-increasing c.args.bytes.now c.args.agent.now)
