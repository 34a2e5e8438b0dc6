use Rattle.std.proofs.Common.{◌≡◌}
use Rattle.irl_layout.specs.Commits.{numbers_in}
use Rattle.irl_layout.proofs.decode.numbers.Given as goal

abbrev pub invariant-loop-i : goal.invariant-loop-i
invariant-loop-i l = l.numbers.items ≡ numbers_in l.i l.bytes
