use Rattle.std.proofs.Common.{◌+◌, ◌-◌, ◌≤◌, length}
use Rattle.irl_http.specs.Heads.{max_heads}
use Rattle.irl_http.specs.Parsing.{HasNoHeadYet, EndsInterim}
use Rattle.irl_http.specs.Steps.{Gets, Undisturbed, IsQuiet}
use Rattle.irl_http.proofs.reading.read_heads.Given as goal

-- the bytes are all that reads gave, and tell nothing
abbrev pub invariant-loop-bytes : goal.invariant-loop-bytes
invariant-loop-bytes g l =
    let link = g.L.Link in
    record {
      gets : Gets IsQuiet (link.left l.fn.link) (link.left l.link) (link.left_at_read l.fn.link) (link.left_at_read l.link) l.bytes.items;
      quiet : IsQuiet l.bytes.items;
      open_head : HasNoHeadYet l.bytes.items;
      interim : EndsInterim l.bytes.items l.from;
      few : length l.bytes.items ≤ max_heads;
      calm : Undisturbed (link.written l.fn.link) (link.written l.link) (link.connections l.fn.link) (link.connections l.link) (link.faults l.fn.link) (link.faults l.link);
    }

abbrev pub decreases-loop-bytes : goal.decreases-loop-bytes
decreases-loop-bytes g l = max_heads + 1 - length l.bytes.items
