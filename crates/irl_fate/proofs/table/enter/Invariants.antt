use Rattle.std.proofs.Common.{◌≡◌, ◌+◌, ◌++◌, ℕ, take, vec_len}
use Rattle.std.specs.Prelude.{vec_capacity}
use Rattle.irl_events.specs.Events.{numbers_of}
use Rattle.irl_fate.specs.Kept.{fate_in, numbers_in}
use Rattle.irl_fate.proofs.table.enter.Given as goal

-- the numbers so far have entries
abbrev pub invariant-loop-place : goal.invariant-loop-place
invariant-loop-place l = record {
  fates : (q : ℕ) → fate_in l.entries.items q ≡ fate_in l.fn.entries.items q;
  numbers : numbers_in l.entries.items ≡ numbers_in l.fn.entries.items ++ numbers_of (take l.place-index l.places);
  len : vec_len l.entries ≡ vec_len l.fn.entries + l.place-index;
  capacity : vec_capacity l.entries ≡ vec_capacity l.fn.entries;
}
