use Rattle.std.proofs.Common.{ℕ, List, ◌++◌, ◌-◌, ◌<◌, ◌≤◌, length, take}
use Rattle.irl_http.specs.Bodies.{IsDue, QuietAhead, most_of}
use Rattle.irl_http.proofs.chunks.Chunks.advance.Given as goal

-- the bytes so far were taken, and show nothing
abbrev pub invariant-loop-n : goal.invariant-loop-n
invariant-loop-n l =
    record {
      within : l.at ≤ length l.bytes;
      room : length l.self.body.items < most_of l.want;
      taken : (done : List ℕ) → IsDue l.fn.self.due l.fn.self.body.items done → IsDue l.self.due l.self.body.items (done ++ take l.at l.bytes) × QuietAhead l.want done l.bytes l.at;
    }

abbrev pub decreases-loop-n : goal.decreases-loop-n
decreases-loop-n l = length l.bytes - l.at
