use Rattle.std.proofs.Common.{inl, ℕ, true, false, [], refl, rules, arith}
use Rattle.irl_schedule.specs.Feeding.{moment}
use Rattle.irl_schedule.specs.Schedule.{IsDue, none_more}
use Rattle.irl_schedule.proofs.Counts.{merged_pending}
use Rattle.irl_schedule.proofs.Schedules.{answers_err, answers_ok, merge_schedules, schedules_none, some_due}
use Rattle.irl_schedule.proofs.schedule.merge_if_due.Goals as goal

pub returns-then-not-is_due-clause-schedules : goal.returns-then-not-is_due-clause-schedules
returns-then-not-is_due-clause-schedules g c = λ waits.
    schedules_none false (moment (g.S.Store.told c.args.store.now) c.args.bay.now waits) (g.met.S.Store.is_consistent c.args.store.now) c.is_sound-is_sound.ensures.drum

pub returns-in-Ok-clause-schedules : goal.returns-in-Ok-clause-schedules
returns-in-Ok-clause-schedules g c = λ waits.
    let told = g.S.Store.told in
    let law = c.is_sound-is_sound.ensures.drum in
    let due : IsDue c.args.bay.now = search rules in
    let merge = c.merge.ensures in
    answers_ok c.merge.result c.in-Ok.field-0 true 0 none_more [] _ _ c.in-Ok.is
    (merge_schedules c.merge.result c.args.bay.now c.merge.new.self (told c.args.store.now) (told c.merge.new.store) waits 0 (g.met.S.Store.is_consistent c.merge.new.store) law
    (some_due c.args.bay.now law due) merge.merges merge.refused merge.leaves (inl due))

pub returns-in-Err-clause-schedules : goal.returns-in-Err-clause-schedules
returns-in-Err-clause-schedules g c = λ waits.
    let told = g.S.Store.told in
    let law = c.is_sound-is_sound.ensures.drum in
    let due : IsDue c.args.bay.now = search rules in
    let merge = c.merge.ensures in
    answers_err c.merge.result c.in-Err.fault 0 none_more [] _ _ c.in-Err.is
    (merge_schedules c.merge.result c.args.bay.now c.merge.new.self (told c.args.store.now) (told c.merge.new.store) waits 0 (g.met.S.Store.is_consistent c.merge.new.store) law
    (some_due c.args.bay.now law due) merge.merges merge.refused merge.leaves (inl due))

pub returns-in-Ok-clause-merges : goal.returns-in-Ok-clause-merges
returns-in-Ok-clause-merges g c =
    let due : IsDue c.args.bay.now = search rules in
    let counts = c.in-Ok.ensures.merges.counts in
    let none = λ (b : ℕ). merged_pending b c.args.bay.now c.merge.new.self counts in
    record {
      ran = (λ is. due, λ is. refl);
      judged = λ is b. none b;
      idle = λ not. absurd (not due);
      ready = λ again. omega (arith, again.2, none again.0, c.merge.ensures.goes_on.drum.settings.sizes.trigger);
    }
