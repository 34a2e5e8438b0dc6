use Rattle.std.proofs.Common.{◌≡◌, ℕ, ◌<◌}
use Rattle.irl_bay.specs.Drum.{pending_at}
use Rattle.irl_schedule.proofs.schedule.has_pending.Given as goal

abbrev pub invariant-loop-b : goal.invariant-loop-b
invariant-loop-b l = (k : ℕ) → k < l.b → pending_at l.bay k ≡ 0
