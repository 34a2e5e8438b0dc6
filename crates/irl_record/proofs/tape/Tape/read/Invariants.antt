use Rattle.std.proofs.Common.{◌-◌, ◌≤◌}
use Rattle.irl_io.specs.Lines.{most_lines}
use Rattle.irl_record.proofs.ReadLemmas.{ReadsOn}
use Rattle.irl_record.proofs.tape.Tape.read.Given as goal

abbrev pub invariant-lines : goal.invariant-lines
invariant-lines g l =
    let left = g.I.Source.left in
    record {
      bytes : ReadsOn l.fn.pages (left l.fn.source) l.reading l.lines (left l.source);
      few : l.lines.number ≤ most_lines;
      later : g.I.Source.faults l.fn.source ≤ g.I.Source.faults l.source;
    }

abbrev pub decreases-lines : goal.decreases-lines
decreases-lines g l = most_lines - l.lines.number
