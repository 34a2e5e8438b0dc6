use Rattle.std.proofs.Common.{◌≡◌, length}
use Rattle.irl_robots.specs.Matching.{matches}
use Rattle.irl_robots.proofs.runs.is_match.Given as goal

abbrev pub invariant-loop-first : goal.invariant-loop-first
invariant-loop-first l = matches l.rest l.left ≡ matches l.pattern l.path

abbrev pub decreases-loop-first : goal.decreases-loop-first
decreases-loop-first l = length l.rest
