use Rattle.std.proofs.Common.{◌≡◌}
use Rattle.irl_core.specs.Steps.{core_of}
use Rattle.irl_core.proofs.pure.Core.run_all.Given as goal

-- the core that the steps so far leave
abbrev pub invariant-loop-step : goal.invariant-loop-step
invariant-loop-step l = l.core ≡ core_of l.fn.settings l.yielded
