-- A connection, and then a write on it.
use Rattle.irl_record.proofs.WireLemmas.{sends, sends_one}
use Rattle.irl_record.proofs.wire_fetch.send.Goals as goal

pub returns-clause-sent : goal.returns-clause-sent
returns-clause-sent g c =
    let link = g.L.Link in
    sends c.args.port c.args.bytes.now (link.connections c.args.link.now) (link.connections c.connect.new.self) (link.connections c.write.new.self) (link.left c.connect.new.self) (link.left c.write.new.self)
    (link.written c.connect.new.self) c.write.result c.in_ok-connect.ensures.ok c.write.ensures.connection c.write.ensures.left

pub returns-clause-made : goal.returns-clause-made
returns-clause-made g c =
    let link = g.L.Link in
    sends_one c.args.port c.args.bytes.now (link.connections c.args.link.now) (link.connections c.connect.new.self) (link.connections c.write.new.self) (link.left c.connect.new.self)
    (link.written c.connect.new.self) c.write.result c.in_ok-connect.ensures.ok c.write.ensures.connection c.write.ensures.partly
