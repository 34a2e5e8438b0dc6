use Rattle.std.proofs.Common.{◌≡◌, length}
use Rattle.irl_robots.specs.Matching.{matches, some_end}
use Rattle.irl_robots.proofs.runs.is_within.Given as goal

abbrev pub invariant-loop-run : goal.invariant-loop-run
invariant-loop-run l = some_end (matches l.rest) l.left ≡ some_end (matches l.pattern) l.path

abbrev pub decreases-loop-run : goal.decreases-loop-run
decreases-loop-run l = length l.rest
