use Rattle.std.proofs.Common.{◌≡◌, ◌≤◌, ◌++◌, take, length}
use Rattle.irl_robots.specs.Normal.{normal}
use Rattle.irl_robots.specs.Octets.{octets_left}
use Rattle.irl_robots.proofs.octets.write_normal.Given as goal

-- the octets so far and those that are left are the path's
abbrev pub invariant-loop-octet : goal.invariant-loop-octet
invariant-loop-octet l =
    record {
      written : take l.end l.buffer ++ octets_left l.octet-iterator ≡ normal l.path;
      within : l.end ≤ length l.buffer;
    }
