use Rattle.std.proofs.Common.{◌∙◌, ◌+◌, ◌≤◌, ◌++◌, List, ℕ, length, sym, ap, arith}
use Rattle.irl_events.specs.Seen.{seen}
use Rattle.irl_journal.specs.Appending.{Draft}
use Rattle.irl_log.specs.Spelling.{payload_of}
use Rattle.irl_log.proofs.Events.{length-seen, record_seen, payload_at}
use Rattle.irl_log.proofs.payloads.EventPayloadsPayloads.put.Goals as goal

pub event-requires : goal.event-requires
event-requires c = let size = length-seen c.args.self.now.events.now in omega (arith, c.requires.index, size)

pub put_payload-requires : goal.put_payload-requires
put_payload-requires c =
    let event = c.event.result.now in
    let there = record_seen c.args.self.now.events.now c.args.i event c.event.ensures in
    let fits : length c.args.frame.now.bytes + length (payload_of (seen event)) ≤ c.args.frame.now.room = c.requires.room (payload_of (seen event)) there in
    record { room = fits }

pub returns : goal.returns
returns c = λ payload there.
    c.put_payload.ensures
    ∙ ap (λ (bytes : List ℕ). let draft : Draft = record { room = c.args.frame.now.room; bytes = c.args.frame.now.bytes ++ bytes } in draft)
    (sym (payload_at c.args.self.now.events.now c.args.i c.event.result.now payload c.event.ensures there))
