use Rattle.std.proofs.Common.{◌≡◌, ◌+◌, take}
use Rattle.std.specs.List.{sum}
use Rattle.irl_bay.proofs.history.is_sum_within.Given as goal

-- what is left of the bound when the first numbers are taken from it
abbrev pub invariant-loop-n : goal.invariant-loop-n
invariant-loop-n l = sum (take l.n-index l.numbers) + l.left ≡ l.initial.left
