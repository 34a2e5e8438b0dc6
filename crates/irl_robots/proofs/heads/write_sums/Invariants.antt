use Rattle.std.proofs.Common.{◌≡◌, ℕ, ◌<◌, take, get_or}
use Rattle.irl_robots.specs.Heads.{sum_of}
use Rattle.irl_robots.proofs.heads.write_sums.Given as goal

abbrev pub invariant-loop-i : goal.invariant-loop-i
invariant-loop-i l =
    record {
      next : l.sum ≡ sum_of (take l.i l.path);
      written : (k : ℕ) → k < l.i → get_or l.sums k 0 ≡ sum_of (take k l.path);
    }
