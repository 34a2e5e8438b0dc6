use Rattle.std.proofs.Common.{◌≡◌, length}
use Rattle.irl_top.proofs.crawling.open_gates.Given as goal

-- as many so far as were counted
abbrev pub invariant-loop : goal.invariant-loop
invariant-loop l = length l.gates.items ≡ l.counter
