use Rattle.std.proofs.Common.{◌≡◌, length}
use Rattle.irl_data_tests.proofs.fate.first_wrong.Given as goal

-- there is one bucket
abbrev pub invariant-loop-i : goal.invariant-loop-i
invariant-loop-i l = length l.fates.fronts ≡ 1
