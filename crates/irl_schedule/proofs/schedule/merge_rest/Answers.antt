use Rattle.std.proofs.Common.{inr, [], rules, arith}
use Rattle.irl_bay.specs.Drum.{SomePending}
use Rattle.irl_schedule.specs.Feeding.{moment}
use Rattle.irl_schedule.specs.Schedule.{none_more}
use Rattle.irl_schedule.proofs.Schedules.{answers_err, answers_ok, merge_schedules, schedules_more, schedules_none}
use Rattle.irl_schedule.proofs.schedule.merge_rest.Goals as goal

pub returns-then-not-has_pending-clause-schedules : goal.returns-then-not-has_pending-clause-schedules
returns-then-not-has_pending-clause-schedules g c = λ waits.
    schedules_more _ 0 1 none_more none_more [] _ _ (omega arith) (λ n. omega arith)
    (schedules_none tt (moment (g.S.Store.told c.args.store.now) c.args.bay.now waits) (g.met.S.Store.is_consistent c.args.store.now) c.is_sound-is_sound.ensures.drum)

pub returns-in-Ok-clause-schedules : goal.returns-in-Ok-clause-schedules
returns-in-Ok-clause-schedules g c = λ waits.
    let told = g.S.Store.told in
    let some : SomePending c.args.bay.now = search rules in
    let merge = c.merge.ensures in
    answers_ok c.merge.result c.in-Ok.field-0 tt 1 none_more [] _ _ c.in-Ok.is
    (merge_schedules c.merge.result c.args.bay.now c.merge.new.self (told c.args.store.now) (told c.merge.new.store) waits 1 (g.met.S.Store.is_consistent c.merge.new.store)
    c.is_sound-is_sound.ensures.drum some merge.merges merge.refused merge.leaves (inr (omega arith)))

pub returns-in-Err-clause-schedules : goal.returns-in-Err-clause-schedules
returns-in-Err-clause-schedules g c = λ waits.
    let told = g.S.Store.told in
    let some : SomePending c.args.bay.now = search rules in
    let merge = c.merge.ensures in
    answers_err c.merge.result c.in-Err.fault 1 none_more [] _ _ c.in-Err.is
    (merge_schedules c.merge.result c.args.bay.now c.merge.new.self (told c.args.store.now) (told c.merge.new.store) waits 1 (g.met.S.Store.is_consistent c.merge.new.store)
    c.is_sound-is_sound.ensures.drum some merge.merges merge.refused merge.leaves (inr (omega arith)))
