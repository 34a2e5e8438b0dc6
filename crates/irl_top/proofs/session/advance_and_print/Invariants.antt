use Rattle.std.proofs.Common.{[]}
use Rattle.irl_yard.specs.Holding.{IsSound}
use Rattle.irl_intake.specs.Advancing.{pending_in}
use Rattle.irl_top.specs.Session.{place_of}
use Rattle.irl_top.proofs.Stepping.{Went}
use Rattle.irl_top.proofs.session.advance_and_print.Given as goal

-- merges ran so far, and what they judged is printed
abbrev pub invariant-steps : goal.invariant-steps
invariant-steps g l =
    let at = place_of g.O.Sink.written g.O.Sink.faults in
    record {
      went : Went l.fn.kind [] (at l.fn.intake l.fn.output l.fn.printed) (at l.intake l.output l.printed);
      sound : IsSound l.intake.yard.parts;
    }

abbrev pub decreases-steps : goal.decreases-steps
decreases-steps g l = pending_in l.intake.yard.parts.urls
