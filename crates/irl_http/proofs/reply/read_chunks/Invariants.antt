use Rattle.std.proofs.Common.{◌+◌, ◌-◌, ◌<◌, ◌≤◌, length}
use Rattle.irl_http.specs.Bodies.{most_of}
use Rattle.irl_http.specs.Steps.{Undisturbed}
use Rattle.irl_http.proofs.ChunkedReads.{ChunksRead}
use Rattle.irl_http.proofs.reply.read_chunks.Given as goal

-- the bytes that were taken show nothing, few others are ahead, and all are the first ones and what reads gave
abbrev pub invariant-loop-ahead : goal.invariant-loop-ahead
invariant-loop-ahead g l =
    let link = g.L.Link in
    record {
      read : ChunksRead l.want l.fn.rest.items l.ahead.items l.chunks.body.items l.chunks.due l.start l.done (link.left l.fn.link) (link.left l.link) (link.left_at_read l.fn.link)
          (link.left_at_read l.link);
      room : length l.chunks.body.items < most_of l.want;
      far : l.done ≤ l.start + 271700000;
      few : length l.ahead.items ≤ 16640;
      calm : Undisturbed (link.written l.fn.link) (link.written l.link) (link.connections l.fn.link) (link.connections l.link) (link.faults l.fn.link) (link.faults l.link);
    }

abbrev pub decreases-loop-ahead : goal.decreases-loop-ahead
decreases-loop-ahead g l = l.start + 280000000 - (l.done + length l.ahead.items)
