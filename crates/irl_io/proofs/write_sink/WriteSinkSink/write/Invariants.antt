use Rattle.std.proofs.Common.{◌+◌, ◌-◌, ◌≤◌, length, take}
use Rattle.std.specs.Io.KnownBytes.{Appends}
use Rattle.irl_io.proofs.write_sink.WriteSinkSink.write.Given as goal

-- what was taken so far is written
abbrev pub invariant-loop-taken : goal.invariant-loop-taken
invariant-loop-taken g l =
    record {
      within : l.taken ≤ length l.bytes;
      written : Appends (g.T.Write.contents l.fn.self.writer) (g.T.Write.contents l.self.writer) (take l.taken l.bytes);
      later : l.fn.self.faults ≤ l.self.faults;
    }

-- each turn takes a byte or uses up a try
abbrev pub decreases-loop-taken : goal.decreases-loop-taken
decreases-loop-taken g l = length l.bytes - l.taken + l.tries
