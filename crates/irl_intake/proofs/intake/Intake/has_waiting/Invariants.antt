use Rattle.std.proofs.Common.{◌≡◌, ℕ, ◌<◌, length}
use Rattle.irl_schedule.specs.Arrays.{waiting_at}
use Rattle.irl_intake.proofs.intake.Intake.has_waiting.Given as goal

abbrev pub invariant-loop-b : goal.invariant-loop-b
invariant-loop-b g l = (k : ℕ) → k < l.b → length (waiting_at l.self.arrays.items k) ≡ 0
