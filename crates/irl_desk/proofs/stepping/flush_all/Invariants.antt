use Rattle.std.proofs.Common.{◌≡◌, ℕ, Ok}
use Rattle.irl_schedule.specs.Schedule.{none_more}
use Rattle.irl_schedule.specs.Arrays.{waiting_at}
use Rattle.irl_yard.specs.Holding.{IsSound}
use Rattle.irl_intake.specs.Advancing.{moment_of, pending_in}
use Rattle.irl_desk.specs.Stepping.{Steps}
use Rattle.irl_desk.proofs.stepping.flush_all.Given as goal

-- merges ran so far
abbrev pub invariant-steps : goal.invariant-steps
invariant-steps g l = record {
  steps : Steps {A = Unit {0}} (Ok tt) none_more (moment_of l.fn.intake) (moment_of l.intake);
  sound : IsSound l.intake.yard.parts;
  rest : l.intake.yard.parts.rest ≡ l.fn.intake.yard.parts.rest;
  waits : (b : ℕ) → waiting_at l.intake.arrays.items b ≡ waiting_at l.fn.intake.arrays.items b;
}

abbrev pub decreases-steps : goal.decreases-steps
decreases-steps g l = pending_in l.intake.yard.parts.urls
