use Rattle.std.proofs.Common.{[], ◌-◌, ◌<◌, ◌≤◌}
use Rattle.irl_io.specs.Lines.{most_lines}
use Rattle.irl_top.specs.Session.{ReadsOnTold}
use Rattle.irl_top.proofs.reading.next_offer.Given as goal

-- the lines so far were empty
abbrev pub invariant-lines : goal.invariant-lines
invariant-lines g l =
    let left = g.I.Source.left in
    record {
      bytes : ReadsOnTold l.fn.kind l.fn.lines l.lines (left l.fn.input) (left l.input) [];
      number : l.fn.lines.number ≤ l.lines.number;
      few : l.fn.lines.number < l.lines.number → l.lines.number ≤ most_lines;
      later : g.I.Source.faults l.fn.input ≤ g.I.Source.faults l.input;
    }

abbrev pub decreases-lines : goal.decreases-lines
decreases-lines g l = most_lines - l.lines.number
