use Rattle.std.proofs.Common.{◌∙◌, length, sym, ap, arith}
use Rattle.irl_log.proofs.Events.{length-seen, fits_at, payload_at}
use Rattle.irl_log.proofs.payloads.EventPayloadsPayloads.length.Goals as goal

pub event-requires : goal.event-requires
event-requires c = let size = length-seen c.args.self.now.events.now in omega (arith, c.requires, size)

pub payload_length-requires : goal.payload_length-requires
payload_length-requires c = fits_at c.args.self.now.events.now c.args.i c.event.result.now c.args.self.now.fit c.event.ensures

pub returns-clause-value : goal.returns-clause-value
returns-clause-value c = λ payload there.
    c.payload_length.ensures.value ∙ ap length (sym (payload_at c.args.self.now.events.now c.args.i c.event.result.now payload c.event.ensures there))
