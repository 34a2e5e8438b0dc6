use Rattle.std.proofs.Common.{◌≡◌, ◌∙◌, ◌+◌, ◌^◌, ◌<◌, ◌++◌, ◌∷◌, [], ℕ, List, Option, get_or, length, map, take, sym, ap, subst, arith}
use Rattle.irl_events.specs.Events.{Event}
use Rattle.irl_events.specs.Seen.{seen}
use Rattle.irl_events.specs.declared.event.Event.{Event as LogEvent}
use Rattle.irl_journal.specs.Format.{IsPayload, records_text}
use Rattle.irl_log.specs.Spelling.{log_records, payload_of, records_of}
use Rattle.irl_ledger.specs.Noting.{CanRestoreAll, restored_all}
use Rattle.irl_ledger.proofs.SeveralNotes.{can_more, fits_there, noted_more, restored_more, seen_more, text_more}
use Rattle.irl_ledger.proofs.notes.Notes.take_each.Goals as goal

pub record_length-requires : goal.record_length-requires
record_length-requires c =
    let i = c.loop-event.event-index in
    let event = c.event-item.result in
    let fits : IsPayload (payload_of (seen (get_or c.args.events.now i event))) = fits_there c.args.events.now i event c.loop-event-test.true c.requires.fit in
    subst (λ (e : LogEvent). IsPayload (payload_of (seen e))) (sym c.event-item.is) fits

pub loop-event-preserved : goal.loop-event-preserved
loop-event-preserved c =
    let i = c.loop-event.event-index in
    let events = c.args.events.now in
    let event = c.event-item.result in
    let at = c.args.at in
    let all = c.loop-event.before.items in
    let one = c.in_ok-one.one in
    let was = c.loop-event.self in
    let now = c.take.new.self in
    let first = map seen (take i events) in
    let more : map seen (take (i + 1) events) ≡ first ++ seen event ∷ [] =
    seen_more events i event c.loop-event-test.true ∙ ap (λ (e : LogEvent). first ++ seen e ∷ []) (sym c.event-item.is) in
    let bytes = ap (λ (es : List Event). length (records_text (log_records es))) more ∙ text_more first (seen event) in
    let pushed = c.push_reserved.ensures.items in
    let back = c.in_ok-one.ensures.restores in
    record {
      count = omega (arith, c.push_reserved.ensures.len, c.loop-event.invariant.count);
      room = omega (arith, c.push_reserved.ensures.capacity, c.loop-event.invariant.room);
      here = omega (arith, bytes, c.loop-event.invariant.here, c.saturating_add-here.ensures, c.record_length.ensures);
      noted = λ within.
          let before : at + length (records_text (log_records first)) < 2 ^ 64 = omega (arith, within, bytes) in
          let here : c.loop-event.here ≡ at + length (records_text (log_records first)) = omega (arith, before, c.loop-event.invariant.here) in
          noted_more at c.loop-event.here first (map seen (take (i + 1) events)) (seen event) c.args.self.now was now more here (c.loop-event.invariant.noted before) c.in_ok-one.ensures.ok;
      can = subst (λ (l : List (Option (List ℕ × Option ℕ))). CanRestoreAll l now) (sym pushed)
          (can_more all one now (subst (CanRestoreAll all) (sym back) c.loop-event.invariant.can) c.in_ok-one.ensures.can);
      restores = ap (λ (l : List (Option (List ℕ × Option ℕ))). restored_all l now) pushed ∙ restored_more all one now ∙ ap (restored_all all) back ∙ c.loop-event.invariant.restores;
    }
