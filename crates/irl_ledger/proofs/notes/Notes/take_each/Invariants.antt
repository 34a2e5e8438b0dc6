use Rattle.std.proofs.Common.{◌≡◌, ◌+◌, ◌-◌, ◌<◌, ◌≤◌, ◌^◌, length, map, min, take, vec_capacity, vec_len}
use Rattle.irl_events.specs.Seen.{seen}
use Rattle.irl_journal.specs.Format.{records_text}
use Rattle.irl_log.specs.Spelling.{log_records}
use Rattle.irl_ledger.specs.Noting.{CanRestoreAll, noted_all, restored_all}
use Rattle.irl_ledger.proofs.notes.Notes.take_each.Given as goal

-- the first of the events are taken
abbrev pub invariant-loop-event : goal.invariant-loop-event
invariant-loop-event l =
    let first = map seen (take l.event-index l.events) in
    let bytes = length (records_text (log_records first)) in
    record {
      count : vec_len l.before ≡ l.event-index;
      room : length l.events ≤ vec_capacity l.before;
      here : l.here ≡ min (l.at + bytes) (2 ^ 64 - 1);
      noted : l.at + bytes < 2 ^ 64 → l.self ≡ noted_all l.at first l.fn.self;
      can : CanRestoreAll l.before.items l.self;
      restores : restored_all l.before.items l.self ≡ l.fn.self;
    }
