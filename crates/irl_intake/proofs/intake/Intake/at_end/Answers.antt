use Rattle.std.proofs.Common.{◌≡◌, ◌∙◌, [], None, Err, refl, sym, ap, rules, subst}
use Rattle.std.proofs.lemmas.Result.{err_from_is_err_and}
use Rattle.irl_offer.specs.declared.settings.Settings.{Settings}
use Rattle.irl_schedule.specs.Feeding.{Moment, moment}
use Rattle.irl_schedule.specs.Schedule.{IsDue, none_more}
use Rattle.irl_schedule.proofs.Schedules.{answers_ok}
use Rattle.irl_schedule.specs.Scheduling.{Schedules}
use Rattle.irl_intake.specs.Advancing.{Advances, early_at, uneven_at}
use Rattle.irl_schedule.specs.Arrays.{AreArrays, SomeWaiting, waiting_at}
use Rattle.irl_intake.specs.declared.next.Next.TheVariants.{Merged}
use Rattle.irl_intake.proofs.Steps.{alone_refused, last_at_end, merged_at_end, never_full, refused_at_end, refused_at_none, same_moment, stops_first}
use Rattle.irl_intake.proofs.intake.Intake.at_end.Goals as goal

pub invariant_of-self : goal.invariant_of-self
invariant_of-self g c = record {
  arrays_are = subst (λ (s : Settings). AreArrays s c.args.self.now.arrays.items) (sym (c.merge_if_due.ensures.schedules (λ n. [])).stays.settings) c.args.self.now.arrays_are;
}

pub returns-in_err-merge_if_due-clause-schedules : goal.returns-in_err-merge_if_due-clause-schedules
returns-in_err-merge_if_due-clause-schedules g c =
    let tells = g.S.Store.told in
    let was = c.args.self.now in
    let next = c.merge_if_due.new.self in
    let waits = waiting_at was.arrays.items in
    let old : Moment = moment (tells was.yard.store) was.yard.parts.urls waits in
    let mid : Moment = moment (tells next.store) next.parts.urls waits in
    let out = err_from_is_err_and c.from_residual.result c.from_residual.ensures.1 in
    let is = out.1 ∙ ap (λ e. Err e) out.2 in
    refused_at_none c.merge_if_due.result c.from_residual.result _ old mid c.in_err-merge_if_due.was is (c.merge_if_due.ensures.schedules waits)

pub returns-in_err-merge_if_due-clause-advances : goal.returns-in_err-merge_if_due-clause-advances
returns-in_err-merge_if_due-clause-advances g c =
    let tells = g.S.Store.told in
    let was = c.args.self.now in
    let next = c.merge_if_due.new.self in
    let waits = waiting_at was.arrays.items in
    let old : Moment = moment (tells was.yard.store) was.yard.parts.urls waits in
    let mid : Moment = moment (tells next.store) next.parts.urls waits in
    let out = err_from_is_err_and c.from_residual.result c.from_residual.ensures.1 in
    let is = out.1 ∙ ap (λ e. Err e) out.2 in
    refused_at_end c.from_residual.result _ 0 old mid is (stops_first old mid (λ n. refl))
    (λ m named. never_full c.merge_if_due.result c.from_residual.result _ 0 none_more (tells was.yard.store) (tells next.store) was.yard.parts.urls next.parts.urls m 0
    c.in_err-merge_if_due.was is c.merge_if_due.ensures.schedules named)
    (λ due some. alone_refused c.merge_if_due.result _ (tells was.yard.store) (tells next.store) was.yard.parts.urls next.parts.urls waits c.in_err-merge_if_due.was c.merge_if_due.ensures.schedules)

pub returns-then-branch-clause-schedules : goal.returns-then-branch-clause-schedules
returns-then-branch-clause-schedules g c =
    let tells = g.S.Store.told in
    let was = c.args.self.now in
    let next = c.merge_if_due.new.self in
    let waits = waiting_at was.arrays.items in
    let old : Moment = moment (tells was.yard.store) was.yard.parts.urls waits in
    let mid : Moment = moment (tells next.store) next.parts.urls waits in
    answers_ok c.merge_if_due.result _ _ 0 none_more [] old mid c.in_ok-merge_if_due.was (c.merge_if_due.ensures.schedules waits)

pub returns-then-branch-clause-advances : goal.returns-then-branch-clause-advances
returns-then-branch-clause-advances g c =
    let tells = g.S.Store.told in
    let was = c.args.self.now in
    let next = c.merge_if_due.new.self in
    let waits = waiting_at was.arrays.items in
    let old : Moment = moment (tells was.yard.store) was.yard.parts.urls waits in
    let mid : Moment = moment (tells next.store) next.parts.urls waits in
    let merges = c.in_ok-merge_if_due.ensures.merges in
    let ran = merges.ran in
    let judged = merges.judged in
    let due : IsDue was.yard.parts.urls = search rules in
    let some : SomeWaiting was.yard.parts.urls.settings.buckets was.arrays.items = search rules in
    merged_at_end old mid c.is_sound-is_sound.ensures.drum due some (search rules) merges.ready (λ n. refl)
    (answers_ok c.merge_if_due.result _ Merged 0 none_more [] old mid c.in_ok-merge_if_due.was (c.merge_if_due.ensures.schedules waits))

pub returns-clause-advances : goal.returns-clause-advances
returns-clause-advances g c =
    let tells = g.S.Store.told in
    let was = c.args.self.now in
    let next = c.merge_if_due.new.self in
    let waits = waiting_at was.arrays.items in
    let old : Moment = moment (tells was.yard.store) was.yard.parts.urls waits in
    let mid : Moment = moment (tells next.store) next.parts.urls waits in
    let merges = c.in_ok-merge_if_due.ensures.merges in
    let ran = merges.ran in
    let none : IsDue was.yard.parts.urls → ⊥ = search rules in
    let idle = merges.idle none in
    let same : mid ≡ old = same_moment tells was.yard.store next.store was.yard.parts.urls next.parts.urls waits idle.1 idle.2 in
    let last = c.finish-2.new.self in
    let new : Moment = moment (tells last.yard.store) last.yard.parts.urls (waiting_at last.arrays.items) in
    subst (λ (m : Moment). Advances c.finish-2.result None m new) same c.finish-2.ensures.advances

pub returns-clause-schedules : goal.returns-clause-schedules
returns-clause-schedules g c =
    let tells = g.S.Store.told in
    let was = c.args.self.now in
    let next = c.merge_if_due.new.self in
    let waits = waiting_at was.arrays.items in
    let old : Moment = moment (tells was.yard.store) was.yard.parts.urls waits in
    let mid : Moment = moment (tells next.store) next.parts.urls waits in
    let merges = c.in_ok-merge_if_due.ensures.merges in
    let ran = merges.ran in
    let none : IsDue was.yard.parts.urls → ⊥ = search rules in
    let idle = merges.idle none in
    let same : mid ≡ old = same_moment tells was.yard.store next.store was.yard.parts.urls next.parts.urls waits idle.1 idle.2 in
    let last = c.finish-2.new.self in
    let new : Moment = moment (tells last.yard.store) last.yard.parts.urls (waiting_at last.arrays.items) in
    subst (λ (m : Moment). Schedules c.finish-2.result (early_at None c.finish-2.result) (uneven_at None c.finish-2.result) [] m new) same
    (last_at_end c.finish-2.result mid new c.finish-2.ensures.ready c.finish-2.ensures.schedules)
