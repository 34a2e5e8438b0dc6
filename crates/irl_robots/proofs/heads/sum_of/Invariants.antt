use Rattle.std.proofs.Common.{◌≡◌, take}
use Rattle.irl_robots.specs.Heads.{sum_of}
use Rattle.irl_robots.proofs.heads.sum_of.Given as goal

abbrev pub invariant-loop-octet : goal.invariant-loop-octet
invariant-loop-octet l = l.sum ≡ sum_of (take l.octet-index l.octets)
