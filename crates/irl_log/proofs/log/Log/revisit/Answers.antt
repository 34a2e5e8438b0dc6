-- What the journal says of the visitor of records is said of the events.
use Rattle.std.proofs.Common.{rules}
use Rattle.irl_log.proofs.Visitors.{log_revisits}
use Rattle.irl_log.proofs.log.Log.revisit.Goals as goal

pub returns : goal.returns
returns g c =
    log_revisits g.V.VisitEvents.takes g.V.VisitEvents.refuses g.S.Store.told c.revisit.result c.self.inside.journal c.args.self.now c.args.at _ c.revisit.new.visitor _ c.args.store.now
    c.revisit.new.store c.self.view_is c.revisit.ensures.revisited c.revisit.ensures.damaged c.revisit.ensures.idle c.revisit.ensures.reads (search rules)
