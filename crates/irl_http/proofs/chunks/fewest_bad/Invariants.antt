use Rattle.std.proofs.Common.{◌-◌, ◌<◌, ◌≤◌, length, take}
use Rattle.httparse.specs.Grammar.{NeverHasChunkLine}
use Rattle.irl_http.proofs.chunks.fewest_bad.Given as goal

-- so many are good, and so many bad
abbrev pub invariant-loop-bad : goal.invariant-loop-bad
invariant-loop-bad l =
    record {
      ordered : l.good < l.bad;
      within : l.bad ≤ length l.front;
      bad : NeverHasChunkLine (take l.bad l.front);
      good : ¬ NeverHasChunkLine (take l.good l.front);
    }

abbrev pub decreases-loop-bad : goal.decreases-loop-bad
decreases-loop-bad l = l.bad - l.good
