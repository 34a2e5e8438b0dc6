use Rattle.std.proofs.Common.{◌≡◌, drop}
use Rattle.irl_host.specs.Sight.{is_plain_behind}
use Rattle.irl_host.proofs.sight.is_plain_target.Given as goal

-- the bytes that are left decide
abbrev pub invariant-loop-b : goal.invariant-loop-b
invariant-loop-b l = is_plain_behind l.before (drop l.b-index l.target) ≡ is_plain_behind 47 l.target
