use Rattle.irl_events.specs.Seen.{seen}
use Rattle.irl_log.proofs.Noted.{not_note, is_note, if_some}
use Rattle.irl_log.proofs.note.read_note.Goals as goal

pub returns-in_default-clause-none : goal.returns-in_default-clause-none
returns-in_default-clause-none c = λ none note is. c.in_ok-event.ensures.none c.in_default.is _ is.logged is.spelled

pub returns-clause-none : goal.returns-clause-none
returns-clause-none c = λ none.
    let event = rw c.in-Some.is at c.in_ok-event.ensures.found in
    not_note c.args.buckets c.args.payload.now (seen c.in-Some.event) event.0 event.1 (c.note_of.ensures.none none)

pub returns-clause-found : goal.returns-clause-found
returns-clause-found c =
    let event = rw c.in-Some.is at c.in_ok-event.ensures.found in
    if_some c.note_of.result _ _ (λ note is. is_note c.args.buckets c.args.payload.now (seen c.in-Some.event) note event.0 event.1 is) c.note_of.ensures.found
