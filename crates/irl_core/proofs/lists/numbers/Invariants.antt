use Rattle.std.proofs.Common.{◌≡◌, take}
use Rattle.irl_core.proofs.lists.numbers.Given as goal

-- the numbers so far
abbrev pub invariant-loop-number : goal.invariant-loop-number
invariant-loop-number l = l.numbers ≡ take l.number-index l.items
