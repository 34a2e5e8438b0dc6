use Rattle.std.proofs.Common.{◌≡◌, length}
use Rattle.irl.proofs.new_ports.Given as goal

-- as many so far as were counted
abbrev pub invariant-loop : goal.invariant-loop
invariant-loop g l = length l.ports.items ≡ l.counter
