use Rattle.std.proofs.Common.{◌≡◌, ℕ, take}
use Rattle.irl_fate.specs.Fates.{done_by}
use Rattle.irl_fate.specs.Kept.{fate_in, numbers_in}
use Rattle.irl_fate.proofs.numbers.settle_all.Given as goal

-- the numbers so far are done
abbrev pub invariant-loop-number : goal.invariant-loop-number
invariant-loop-number l = record {
  fates : (q : ℕ) → fate_in l.entries q ≡ done_by (take l.number-index l.done) q (fate_in l.fn.entries q);
  numbers : numbers_in l.entries ≡ numbers_in l.fn.entries;
}
