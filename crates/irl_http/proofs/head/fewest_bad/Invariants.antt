use Rattle.std.proofs.Common.{◌-◌, ◌<◌, ◌≤◌, length, take}
use Rattle.httparse.specs.Grammar.{NeverHasResponse}
use Rattle.irl_http.specs.Parsing.{MayBecomeHead}
use Rattle.irl_http.proofs.head.fewest_bad.Given as goal

-- so many are good, and so many bad
abbrev pub invariant-loop-bad : goal.invariant-loop-bad
invariant-loop-bad l =
    record {
      ordered : l.good < l.bad;
      within : l.bad ≤ length l.front;
      bad : NeverHasResponse (take l.bad l.front);
      good : MayBecomeHead (take l.good l.front);
    }

abbrev pub decreases-loop-bad : goal.decreases-loop-bad
decreases-loop-bad l = l.bad - l.good
