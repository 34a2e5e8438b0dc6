-- A request on a connection of its own, and the reply.
use Rattle.std.proofs.Common.{◌≡◌, ◌≤◌, IfOk, subst, arith}
use Rattle.irl_http.specs.Request.{request_of}
use Rattle.irl_record.specs.Widening.{WidensSince}
use Rattle.irl_record.specs.Wired.{Wired, by_wire, how_many}
use Rattle.irl_record.proofs.WireLemmas.{one_stays, wire_wider, wire_ok}
use Rattle.irl_record.proofs.wire_fetch.WireFetchFetch.fetch.Goals as goal

pub returns-in-Ok-clause-told : goal.returns-in-Ok-clause-told
returns-in-Ok-clause-told g c =
    let link = g.P.Link in
    let inside = c.self.inside in
    let sent : c.bytes-2.result.now ≡ c.in_ok-request.request = c.bytes-2.ensures in
    let built : c.in_ok-request.request ≡ request_of c.args.web.now c.bytes.result.now = c.in_ok-request.ensures in
    let named : c.bytes.result.now ≡ inside.agent = c.bytes.ensures in
    let asked : c.bytes-2.result.now ≡ request_of c.args.web.now inside.agent = cc in
    subst (λ (s : Wired g.row.P.Denot). IfOk c.read_reply.result (by_wire inside.number inside.agent (link.faults c.read_reply.new.link) (link.connections c.read_reply.new.link) (how_many (link.connections s.port)) c.args.web.now c.args.want))
    c.self.view_is
    (wire_ok inside.number inside.agent c.args.web.now c.bytes-2.result.now c.args.want (link.faults c.send.new.link) (link.faults c.read_reply.new.link) (link.connections inside.port)
    (link.connections c.send.new.link) (link.connections c.read_reply.new.link) (link.left c.send.new.link) (link.left c.read_reply.new.link) (link.left_at_read c.read_reply.new.link) c.read_reply.result asked
    c.in-Ok.ensures.sent c.read_reply.ensures.connections c.read_reply.ensures.answer c.read_reply.ensures.cause)

pub returns-in-Ok-clause-wider : goal.returns-in-Ok-clause-wider
returns-in-Ok-clause-wider g c =
    let link = g.P.Link in
    let inside = c.self.inside in
    let later : link.faults inside.port ≤ link.faults c.read_reply.new.link = omega (arith, c.send.ensures.cause.later, c.read_reply.ensures.cause.later) in
    subst (λ (s : Wired g.row.P.Denot). WidensSince (by_wire s.number s.agent (link.faults s.port) (link.connections s.port)) (by_wire inside.number inside.agent (link.faults c.read_reply.new.link) (link.connections c.read_reply.new.link)))
    c.self.view_is
    (wire_wider inside.number inside.agent (link.faults inside.port) (link.faults c.read_reply.new.link) (link.connections inside.port) (link.connections c.read_reply.new.link) later
    (one_stays (link.connections inside.port) (link.connections c.send.new.link) (link.connections c.read_reply.new.link) c.send.ensures.made c.read_reply.ensures.connections))

pub returns-clause-wider : goal.returns-clause-wider
returns-clause-wider g c =
    let link = g.P.Link in
    let inside = c.self.inside in
    subst (λ (s : Wired g.row.P.Denot). WidensSince (by_wire s.number s.agent (link.faults s.port) (link.connections s.port)) (by_wire inside.number inside.agent (link.faults c.send.new.link) (link.connections c.send.new.link)))
    c.self.view_is
    (wire_wider inside.number inside.agent (link.faults inside.port) (link.faults c.send.new.link) (link.connections inside.port) (link.connections c.send.new.link) c.send.ensures.cause.later
    c.send.ensures.made)
