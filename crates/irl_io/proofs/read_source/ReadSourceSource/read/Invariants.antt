use Rattle.std.proofs.Common.{◌<◌, ◌≤◌}
use Rattle.std.specs.Io.KnownBytes.{Keeps}
use Rattle.irl_base.specs.Faults.{Rose}
use Rattle.irl_io.proofs.read_source.ReadSourceSource.read.Given as goal

-- nothing was read yet, and each try before this one was a fault
abbrev pub invariant-loop : goal.invariant-loop
invariant-loop g l =
    record {
      kept : Keeps (g.T.Read.remaining l.fn.self.reader) (g.T.Read.remaining l.self.reader);
      later : l.fn.self.faults ≤ l.self.faults;
      failed : 0 < l.counter → Rose l.fn.self.faults l.self.faults;
    }
