use Rattle.std.proofs.Common.{sym}
use Rattle.irl_log.proofs.Events.{length-seen}
use Rattle.irl_log.proofs.payloads.EventPayloadsPayloads.count.Goals as goal

pub returns : goal.returns
returns c = let events = c.args.self.now.events.now in sym (length-seen events)
