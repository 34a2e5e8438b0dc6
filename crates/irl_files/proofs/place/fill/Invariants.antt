use Rattle.std.proofs.Common.{◌+◌, ◌-◌, ◌≤◌, length, take}
use Rattle.std.specs.Io.KnownBytes.{Consumes}
use Rattle.irl_files.proofs.place.fill.Given as goal

-- what was read so far stands at the front
abbrev pub invariant-loop-filled : goal.invariant-loop-filled
invariant-loop-filled g l =
    record {
      within : l.filled ≤ length l.into;
      read : Consumes (g.T.Read.remaining l.fn.reader) (g.T.Read.remaining l.reader) (take l.filled l.into);
    }

-- each turn reads a byte, uses up a try or ends
abbrev pub decreases-loop-filled : goal.decreases-loop-filled
decreases-loop-filled g l = length l.into - l.filled + l.tries
