use Rattle.std.proofs.Common.{◌-◌, ◌≤◌, List}
use Rattle.irl_offer.specs.Tuple.{Tuple}
use Rattle.irl_io.specs.Lines.{most_lines}
use Rattle.irl_yard.specs.Holding.{IsSound}
use Rattle.irl_top.specs.Session.{place_of, ReadsOnTold}
use Rattle.irl_top.proofs.InputLines.{start}
use Rattle.irl_top.proofs.Stepping.{Went}
use Rattle.irl_top.proofs.filter.take_in.Given as goal

-- the offers so far were handed in, and what was judged is printed
abbrev pub invariant-offers : goal.invariant-offers
invariant-offers g l =
    let at = place_of g.O.Sink.written g.O.Sink.faults in
    (news : List Tuple) × record {
      reads : ReadsOnTold l.fn.kind start l.lines (g.I.Source.left l.fn.input) (g.I.Source.left l.input) news;
      went : Went l.fn.kind news (at l.fn.intake l.fn.output l.fn.printed) (at l.intake l.output l.printed);
      sound : IsSound l.intake.yard.parts;
      later : g.I.Source.faults l.fn.input ≤ g.I.Source.faults l.input;
    }

abbrev pub decreases-offers : goal.decreases-offers
decreases-offers g l = most_lines - l.lines.number
