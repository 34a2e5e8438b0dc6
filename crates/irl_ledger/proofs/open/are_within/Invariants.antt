use Rattle.std.proofs.Common.{ℕ, ◌<◌, ◌≤◌, get_or}
use Rattle.irl_bay.specs.Drum.{durable_at}
use Rattle.irl_ledger.proofs.open.are_within.Given as goal

abbrev pub invariant-loop-b : goal.invariant-loop-b
invariant-loop-b l = (k : ℕ) → k < l.b → get_or l.fronts k 0 ≤ durable_at l.urls k
