use Rattle.std.proofs.Common.{◌≡◌, ◌-◌, []}
use Rattle.irl_yard.specs.Holding.{IsSound}
use Rattle.irl_schedule.specs.Schedule.{none_more}
use Rattle.irl_top.specs.Session.{place_of, GoesOn, HasReason}
use Rattle.irl_top.specs.declared.ending.Ending.TheVariants.{Done}
use Rattle.irl_top.proofs.session.print_new.Given as goal

-- the pieces so far are printed
abbrev pub invariant-loop-printed : goal.invariant-loop-printed
invariant-loop-printed g l =
    let at = place_of g.O.Sink.written g.O.Sink.faults in
    let before = at l.fn.intake l.fn.output l.fn.printed in
    let now = at l.intake l.output l.printed in
    record {
      goes : GoesOn l.fn.kind 0 none_more [] before now;
      sound : IsSound l.intake.yard.parts;
      drum : l.intake.yard.parts.urls ≡ l.fn.intake.yard.parts.urls;
      arrays : l.intake.arrays ≡ l.fn.intake.arrays;
      reason : HasReason before now Done;
    }

abbrev pub decreases-loop-printed : goal.decreases-loop-printed
decreases-loop-printed g l = l.intake.yard.parts.urls.last.judged - l.printed
