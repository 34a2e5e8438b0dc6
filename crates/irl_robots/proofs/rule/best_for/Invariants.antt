use Rattle.std.proofs.Common.{◌≡◌, take, None}
use Rattle.std.specs.List.{fold}
use Rattle.std.specs.Option.{option_copied}
use Rattle.irl_robots.specs.Target.{normal_of}
use Rattle.irl_robots.specs.Rule.{best_after}
use Rattle.irl_robots.proofs.rule.best_for.Given as goal

-- the best of the rules so far
abbrev pub invariant-loop-i : goal.invariant-loop-i
invariant-loop-i l = option_copied l.best ≡ fold (best_after (normal_of l.target)) None (take l.i l.rules)
