use Rattle.std.proofs.Common.{◌≡◌, ℕ, take}
use Rattle.irl_fate.specs.Kept.{fate_in, numbers_in, placed_by}
use Rattle.irl_fate.proofs.numbers.place_all.Given as goal

-- the numbers so far are in their places
abbrev pub invariant-loop-place : goal.invariant-loop-place
invariant-loop-place l = record {
  fates : (q : ℕ) → fate_in l.entries q ≡ placed_by (take l.place-index l.places) q (fate_in l.fn.entries q);
  numbers : numbers_in l.entries ≡ numbers_in l.fn.entries;
}
