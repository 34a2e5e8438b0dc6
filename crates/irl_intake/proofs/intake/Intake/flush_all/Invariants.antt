use Rattle.std.proofs.Common.{◌≡◌}
use Rattle.irl_bay.specs.Drum.{IsDrum}
use Rattle.irl_schedule.proofs.Finishing.{SoFar}
use Rattle.irl_yard.specs.Holding.{IsSound}
use Rattle.irl_intake.specs.Advancing.{moment_of}
use Rattle.irl_intake.proofs.intake.Intake.flush_all.Given as goal

abbrev pub invariant-loop-b : goal.invariant-loop-b
invariant-loop-b g l = SoFar l.b (moment_of l.initial.self) (moment_of l.self) × IsSound l.self.yard.parts × IsDrum l.self.yard.parts.urls
    × (l.self.yard.parts.rest ≡ l.initial.self.yard.parts.rest)
