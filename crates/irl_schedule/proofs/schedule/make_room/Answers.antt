use Rattle.std.proofs.Common.{◌≡◌, ◌≤◌, inr, Bool, [], length, true, ap, rules, arith}
use Rattle.irl_array.specs.Waiting.{Waiting}
use Rattle.irl_base.specs.declared.fault.Fault.TheVariants.{Full}
use Rattle.irl_schedule.specs.Feeding.{Moment, moment, with_waiting}
use Rattle.irl_schedule.specs.Schedule.{none_more}
use Rattle.irl_schedule.proofs.Calls.{emptied_array}
use Rattle.irl_schedule.proofs.Outcomes.{same_refusal}
use Rattle.irl_schedule.proofs.Schedules.{answers_err, answers_ok, flush_counts, flush_schedules, flush_then, flush_whole, may_flush_full, schedules_none}
use Rattle.irl_schedule.proofs.schedule.make_room.Goals as goal

pub flush-requires-clause-offers : goal.flush-requires-clause-offers
flush-requires-clause-offers g c =
    let full : c.args.array.now.room ≤ length c.args.array.now.items = omega arith in
    let whole : c.args.bay.now.settings.array ≤ length c.args.array.now.items = omega (arith, full, c.requires.room.array_is.room) in
    may_flush_full c.args.b c.args.array.now c.args.bay.now c.is_sound-is_sound.ensures.drum c.requires.room.bucket c.requires.room.array_is (c.requires.room.ready whole) full

pub merge_if_due-requires-clause-long : goal.merge_if_due-requires-clause-long
merge_if_due-requires-clause-long g c = λ files told.
    let sound : c.flush.new.self.is_sound ≡ true = search rules in
    c.flush.ensures.goes_on.long sound files told

pub returns-then-not-is_full-clause-schedules : goal.returns-then-not-is_full-clause-schedules
returns-then-not-is_full-clause-schedules g c = λ others.
    schedules_none tt (moment (g.S.Store.told c.args.store.now) c.args.bay.now (with_waiting others c.args.b c.args.array.now.items)) (g.met.S.Store.is_consistent c.args.store.now)
    c.is_sound-is_sound.ensures.drum

pub returns-in-Err-clause-schedules : goal.returns-in-Err-clause-schedules
returns-in-Err-clause-schedules g c = λ others.
    let told = g.S.Store.told in
    let lawful = g.met.S.Store.is_consistent in
    let b = c.args.b in
    let array = c.args.array.now in
    let drum = c.args.bay.now in
    let flush = c.flush.ensures in
    let law = c.is_sound-is_sound.ensures.drum in
    let full : array.room ≤ length array.items = omega arith in
    let whole : drum.settings.array ≤ length array.items = omega (arith, full, c.requires.room.array_is.room) in
    let may = may_flush_full b array drum law c.requires.room.bucket c.requires.room.array_is (c.requires.room.ready whole) full in
    let old : Moment = moment (told c.args.store.now) drum (with_waiting others b array.items) in
    let mid : Moment = moment (told c.flush.new.store) c.flush.new.self (with_waiting others b c.flush.new.array.items) in
    let first = flush_whole c.flush.result b array drum.settings old mid c.requires.room.array_is full
    (flush_schedules told lawful c.flush.result b array c.flush.new.array drum c.flush.new.self c.args.store.now c.flush.new.store others law may
    flush.flushes flush.refused flush.leaves flush.goes_on) in
    answers_err c.flush.result c.in-Err.fault 0 none_more [] old mid c.in-Err.is first

pub returns-in-Ok-merge_if_due-clause-schedules : goal.returns-in-Ok-merge_if_due-clause-schedules
returns-in-Ok-merge_if_due-clause-schedules g c = λ others.
    let told = g.S.Store.told in
    let lawful = g.met.S.Store.is_consistent in
    let b = c.args.b in
    let array = c.args.array.now in
    let drum = c.args.bay.now in
    let flush = c.flush.ensures in
    let law = c.is_sound-is_sound.ensures.drum in
    let full : array.room ≤ length array.items = omega arith in
    let whole : drum.settings.array ≤ length array.items = omega (arith, full, c.requires.room.array_is.room) in
    let may = may_flush_full b array drum law c.requires.room.bucket c.requires.room.array_is (c.requires.room.ready whole) full in
    let old : Moment = moment (told c.args.store.now) drum (with_waiting others b array.items) in
    let mid : Moment = moment (told c.flush.new.store) c.flush.new.self (with_waiting others b c.flush.new.array.items) in
    let first = flush_whole c.flush.result b array drum.settings old mid c.requires.room.array_is full
    (flush_schedules told lawful c.flush.result b array c.flush.new.array drum c.flush.new.self c.args.store.now c.flush.new.store others law may
    flush.flushes flush.refused flush.leaves flush.goes_on) in
    let new : Moment = moment (told c.merge_if_due.new.store) c.merge_if_due.new.bay (with_waiting others b c.flush.new.array.items) in
    let counts = flush_counts told lawful c.flush.result b array c.flush.new.array drum c.flush.new.self c.args.store.now c.flush.new.store others law may
    flush.flushes flush.refused flush.leaves flush.goes_on in
    answers_ok c.merge_if_due.result c.in-Ok-merge_if_due.field-0 tt 0 none_more [] old new c.in-Ok-merge_if_due.is
    (flush_then c.flush.result tt c.merge_if_due.result b old mid new c.in-Ok.is (lawful c.flush.new.store) counts first
    (c.merge_if_due.ensures.schedules (with_waiting others b c.flush.new.array.items)))

pub returns-in-Err-merge_if_due-clause-schedules : goal.returns-in-Err-merge_if_due-clause-schedules
returns-in-Err-merge_if_due-clause-schedules g c = λ others.
    let told = g.S.Store.told in
    let lawful = g.met.S.Store.is_consistent in
    let b = c.args.b in
    let array = c.args.array.now in
    let drum = c.args.bay.now in
    let flush = c.flush.ensures in
    let law = c.is_sound-is_sound.ensures.drum in
    let full : array.room ≤ length array.items = omega arith in
    let whole : drum.settings.array ≤ length array.items = omega (arith, full, c.requires.room.array_is.room) in
    let may = may_flush_full b array drum law c.requires.room.bucket c.requires.room.array_is (c.requires.room.ready whole) full in
    let old : Moment = moment (told c.args.store.now) drum (with_waiting others b array.items) in
    let mid : Moment = moment (told c.flush.new.store) c.flush.new.self (with_waiting others b c.flush.new.array.items) in
    let first = flush_whole c.flush.result b array drum.settings old mid c.requires.room.array_is full
    (flush_schedules told lawful c.flush.result b array c.flush.new.array drum c.flush.new.self c.args.store.now c.flush.new.store others law may
    flush.flushes flush.refused flush.leaves flush.goes_on) in
    let new : Moment = moment (told c.merge_if_due.new.store) c.merge_if_due.new.bay (with_waiting others b c.flush.new.array.items) in
    let counts = flush_counts told lawful c.flush.result b array c.flush.new.array drum c.flush.new.self c.args.store.now c.flush.new.store others law may
    flush.flushes flush.refused flush.leaves flush.goes_on in
    answers_err c.merge_if_due.result c.in-Err-merge_if_due.fault 0 none_more [] old new c.in-Err-merge_if_due.is
    (flush_then c.flush.result tt c.merge_if_due.result b old mid new c.in-Ok.is (lawful c.flush.new.store) counts first
    (c.merge_if_due.ensures.schedules (with_waiting others b c.flush.new.array.items)))

pub returns-in-Err-merge_if_due-clause-makes : goal.returns-in-Err-merge_if_due-clause-makes
returns-in-Err-merge_if_due-clause-makes g c =
    let array = c.args.array.now in
    let settings = c.args.bay.now.settings in
    let emptied = c.in-Ok.ensures.flushes.emptied in
    let full : array.room ≤ length array.items = omega arith in
    let whole : settings.array ≤ length array.items = omega (arith, full, c.requires.room.array_is.room) in
    record {
      array = emptied_array settings c.args.b array c.flush.new.array c.requires.room.array_is emptied;
      room = tt;
      idle = λ room. absurd (omega (arith, room, whole));
      ready = tt;
      full = λ n is.
          let why = (c.in-Err-merge_if_due.ensures.schedules (λ w. [])).full n (same_refusal {T = Unit {0}} {U = Bool} c.in-Err-merge_if_due.fault (Full n) is) in
          absurd (omega (arith, why.1));
      memory = λ is. inr (ap (λ (a : Waiting). a.items) emptied);
    }
