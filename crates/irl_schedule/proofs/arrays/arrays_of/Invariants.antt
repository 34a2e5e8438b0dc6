use Rattle.std.proofs.Common.{◌≡◌, ℕ, ◌<◌, ◌≤◌, List, [], length, vec_capacity}
use Rattle.irl_array.specs.Waiting.{Waiting}
use Rattle.irl_schedule.specs.Arrays.{array_at}
use Rattle.irl_schedule.proofs.arrays.arrays_of.Given as goal

-- so many arrays stand there
pub record Stand (buckets room capacity n : ℕ) (arrays : List Waiting) : Type 0 where
  pub count : length arrays ≡ n
  pub room_left : buckets ≤ capacity
  pub each : (b : ℕ) → b < n → array_at arrays b ≡ record { room = room; items = [] }

abbrev pub invariant-loop-b : goal.invariant-loop-b
invariant-loop-b l = Stand l.settings.buckets l.settings.array (vec_capacity l.arrays) l._b l.arrays.items
