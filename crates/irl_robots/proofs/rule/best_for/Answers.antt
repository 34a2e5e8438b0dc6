use Rattle.std.proofs.Common.{◌<◌, length, take, None, sym, ap, ◌∙◌, arith}
use Rattle.std.proofs.lemmas.List.{length-map}
use Rattle.std.specs.List.{fold}
use Rattle.irl_robots.specs.Heads.{head_of}
use Rattle.irl_robots.specs.Rule.{best_after}
use Rattle.irl_robots.specs.Target.{normal_of}
use Rattle.irl_robots.specs.declared.rule.PathRule.{PathRule}
use Rattle.irl_robots.proofs.TargetLemmas.{after-one}
use Rattle.irl_robots.proofs.rule.best_for.Goals as goal

pub loop-i-preserved : goal.loop-i-preserved
loop-i-preserved c =
    let rules = c.args.rules.now in
    let path = normal_of c.args.target in
    let i = c.loop-i.i in
    let x = c.index-rules-i.result in
    let below : i < length rules =
    omega (arith, ap length c.requires.heads, length-map rules (λ (rule : PathRule). head_of rule.pattern))
    in
    c.better-best.ensures
    ∙ ap (λ found. best_after path found x) c.loop-i.invariant
    ∙ ap (best_after path (fold (best_after path) None (take i rules))) c.index-rules-i.is
    ∙ sym (after-one c.args.target rules i x below)
