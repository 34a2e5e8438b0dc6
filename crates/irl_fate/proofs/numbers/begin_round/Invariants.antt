use Rattle.std.proofs.Common.{◌≡◌, ℕ, take, cond}
use Rattle.irl_events.specs.Events.{has_number}
use Rattle.irl_fate.specs.declared.fate.Fate.TheVariants.{Queue}
use Rattle.irl_fate.specs.Kept.{fate_in, numbers_in}
use Rattle.irl_fate.proofs.numbers.begin_round.Given as goal

-- the numbers so far are in queue 1
abbrev pub invariant-loop-number : goal.invariant-loop-number
invariant-loop-number l = record {
  fates : (q : ℕ) → fate_in l.entries q ≡ cond (has_number (take l.number-index l.last) q) (Queue 1) (fate_in l.fn.entries q);
  numbers : numbers_in l.entries ≡ numbers_in l.fn.entries;
}
