-- the numbers before this one lie in their ranges
use Rattle.std.proofs.Common.{ℕ, ◌+◌, ◌-◌, ◌<◌, ◌≤◌}
use Rattle.std.specs.Prelude.{slice_index}
use Rattle.irl_head.specs.Head.{IsInRange}
use Rattle.irl_head.proofs.ranges.first_bad_number.Given as goal

abbrev pub invariant-loop-i : goal.invariant-loop-i
invariant-loop-i l = (m : ℕ) → 1 ≤ m → m < l.i + 1 → IsInRange (slice_index l.numbers 8) m (slice_index l.numbers (m - 1))
