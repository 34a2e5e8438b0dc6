use Rattle.std.proofs.Common.{sym, ap, ◌∙◌}
use Rattle.std.specs.Option.{option_copied}
use Rattle.irl_robots.specs.Target.{normal_of, may_begin}
use Rattle.irl_robots.proofs.TargetLemmas.{not-begun, passed_over}
use Rattle.irl_robots.proofs.rule.better.Goals as goal

pub returns-then-not-may_begin : goal.returns-then-not-may_begin
returns-then-not-may_begin c =
    let path = normal_of c.args.target in
    sym (passed_over path (option_copied c.args.best) c.args.rule.now (not-begun c.args.target c.args.rule.now.pattern c.requires.summed (ap (may_begin c.args.target) (sym c.requires.head)
    ∙ sym c.may_begin.ensures ∙ c.if-not-may_begin.true)))
