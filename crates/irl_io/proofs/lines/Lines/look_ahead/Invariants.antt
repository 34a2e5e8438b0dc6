use Rattle.std.proofs.Common.{◌≡◌, ◌+◌, ◌-◌, ◌≤◌, length}
use Rattle.std.specs.Io.KnownBytes.{Keeps, prepend_known}
use Rattle.irl_base.specs.Limits.{max_text}
use Rattle.irl_io.proofs.lines.Lines.look_ahead.Given as goal

-- the bytes left stay, wherever they are
abbrev pub invariant-loop-length : goal.invariant-loop-length
invariant-loop-length g l =
    let left = g.I.Source.left in
    record {
      kept : Keeps (prepend_known l.fn.self.ahead (left l.fn.source)) (prepend_known l.self.ahead (left l.source));
      number : l.self.number ≡ l.fn.self.number;
      later : g.I.Source.faults l.fn.source ≤ g.I.Source.faults l.source;
    }

-- each turn reads a byte or ends, and one that has more bytes than a line may have ends
abbrev pub decreases-loop-length : goal.decreases-loop-length
decreases-loop-length g l = max_text + 1 - length l.self.ahead
