use Rattle.std.proofs.Common.{◌≡◌, ◌+◌, length}
use Rattle.irl_top_tests.proofs.runs.new_ports.Given as goal

-- the first, and as many more as were counted
abbrev pub invariant-loop : goal.invariant-loop
invariant-loop l = length l.ports.items ≡ l.counter + 1
