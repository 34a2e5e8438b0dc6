use Rattle.std.proofs.Common.{◌≡◌, ◌∙◌, [], Ok, Err, refl, sym, ap, rules, subst, arith}
use Rattle.std.proofs.lemmas.Result.{err_from_is_err_and}
use Rattle.irl_offer.specs.declared.settings.Settings.{Settings}
use Rattle.irl_schedule.specs.Arrays.{AreArrays, SomeWaiting, waiting_at}
use Rattle.irl_schedule.specs.Feeding.{Moment, moment}
use Rattle.irl_schedule.specs.Schedule.{IsDue, none_more, one_more}
use Rattle.irl_schedule.specs.Scheduling.{Schedules}
use Rattle.irl_schedule.proofs.Schedules.{answers_ok, schedules_more, schedules_none}
use Rattle.irl_intake.specs.Advancing.{FlushesWaiting}
use Rattle.irl_intake.specs.declared.next.Next.TheVariants.{Merged, Ready}
use Rattle.irl_intake.proofs.Steps.{alone_refused, flush_done, flush_idle, flush_merged, flush_refused, flush_refused_by, never_full, none_wait, refused_uneven, same_moment, sound_on, stops_first}
use Rattle.irl_intake.proofs.intake.Intake.flush_waiting.Goals as goal

pub returns-then-not-has_waiting-clause-schedules : goal.returns-then-not-has_waiting-clause-schedules
returns-then-not-has_waiting-clause-schedules g c =
    let was = c.args.self.now in
    let old : Moment = moment (g.S.Store.told was.yard.store) was.yard.parts.urls (waiting_at was.arrays.items) in
    schedules_more (Ok Ready) 0 0 none_more one_more [] old old (omega arith) (λ b. omega arith) (schedules_none Ready old (g.met.S.Store.is_consistent was.yard.store) c.is_sound-is_sound.ensures.drum)

pub returns-then-not-has_waiting-clause-flushes : goal.returns-then-not-has_waiting-clause-flushes
returns-then-not-has_waiting-clause-flushes g c =
    let was = c.args.self.now in
    let old : Moment = moment (g.S.Store.told was.yard.store) was.yard.parts.urls (waiting_at was.arrays.items) in
    let none : SomeWaiting was.yard.parts.urls.settings.buckets was.arrays.items → ⊥ = search rules in
    flush_idle old (none_wait was.yard.parts.urls.settings was.arrays.items was.arrays_are none)

pub invariant_of-self : goal.invariant_of-self
invariant_of-self g c = record {
  arrays_are = subst (λ (s : Settings). AreArrays s c.args.self.now.arrays.items) (sym (c.merge_if_due.ensures.schedules (λ n. [])).stays.settings) c.args.self.now.arrays_are;
}

pub returns-in_err-merge_if_due-clause-schedules : goal.returns-in_err-merge_if_due-clause-schedules
returns-in_err-merge_if_due-clause-schedules g c =
    let tells = g.S.Store.told in
    let was = c.args.self.now in
    let next = c.merge_if_due.new.self in
    let waits = waiting_at was.arrays.items in
    let old : Moment = moment (tells was.yard.store) was.yard.parts.urls waits in
    let mid : Moment = moment (tells next.store) next.parts.urls waits in
    let out = err_from_is_err_and c.from_residual.result c.from_residual.ensures.1 in
    let is = out.1 ∙ ap (λ e. Err e) out.2 in
    refused_uneven c.merge_if_due.result c.from_residual.result _ none_more old mid c.in_err-merge_if_due.was is (λ b. omega arith) (c.merge_if_due.ensures.schedules waits)

pub returns-in_err-merge_if_due-clause-flushes : goal.returns-in_err-merge_if_due-clause-flushes
returns-in_err-merge_if_due-clause-flushes g c =
    let tells = g.S.Store.told in
    let was = c.args.self.now in
    let next = c.merge_if_due.new.self in
    let waits = waiting_at was.arrays.items in
    let old : Moment = moment (tells was.yard.store) was.yard.parts.urls waits in
    let mid : Moment = moment (tells next.store) next.parts.urls waits in
    let out = err_from_is_err_and c.from_residual.result c.from_residual.ensures.1 in
    let is = out.1 ∙ ap (λ e. Err e) out.2 in
    flush_refused c.from_residual.result _ 0 old mid is (stops_first old mid (λ n. refl))
    (λ m named. never_full c.merge_if_due.result c.from_residual.result _ 0 none_more (tells was.yard.store) (tells next.store) was.yard.parts.urls next.parts.urls m 0
    c.in_err-merge_if_due.was is c.merge_if_due.ensures.schedules named)
    (λ due some. alone_refused c.merge_if_due.result _ (tells was.yard.store) (tells next.store) was.yard.parts.urls next.parts.urls waits c.in_err-merge_if_due.was c.merge_if_due.ensures.schedules)

pub returns-then-branch-clause-schedules : goal.returns-then-branch-clause-schedules
returns-then-branch-clause-schedules g c =
    let tells = g.S.Store.told in
    let was = c.args.self.now in
    let next = c.merge_if_due.new.self in
    let waits = waiting_at was.arrays.items in
    let old : Moment = moment (tells was.yard.store) was.yard.parts.urls waits in
    let mid : Moment = moment (tells next.store) next.parts.urls waits in
    answers_ok c.merge_if_due.result _ _ 0 none_more [] old mid c.in_ok-merge_if_due.was (c.merge_if_due.ensures.schedules waits)

pub returns-then-branch-clause-flushes : goal.returns-then-branch-clause-flushes
returns-then-branch-clause-flushes g c =
    let tells = g.S.Store.told in
    let was = c.args.self.now in
    let next = c.merge_if_due.new.self in
    let waits = waiting_at was.arrays.items in
    let old : Moment = moment (tells was.yard.store) was.yard.parts.urls waits in
    let mid : Moment = moment (tells next.store) next.parts.urls waits in
    let merges = c.in_ok-merge_if_due.ensures.merges in
    let ran = merges.ran in
    let judged = merges.judged in
    let due : IsDue was.yard.parts.urls = search rules in
    let some : SomeWaiting was.yard.parts.urls.settings.buckets was.arrays.items = search rules in
    flush_merged old mid c.is_sound-is_sound.ensures.drum due some (search rules) merges.ready (λ n. refl)
    (answers_ok c.merge_if_due.result _ Merged 0 none_more [] old mid c.in_ok-merge_if_due.was (c.merge_if_due.ensures.schedules waits))

pub returns-in_err-flush_all-clause-schedules : goal.returns-in_err-flush_all-clause-schedules
returns-in_err-flush_all-clause-schedules g c =
    let tells = g.S.Store.told in
    let was = c.args.self.now in
    let next = c.merge_if_due.new.self in
    let last = c.flush_all.new.self in
    let waits = waiting_at was.arrays.items in
    let old : Moment = moment (tells was.yard.store) was.yard.parts.urls waits in
    let mid : Moment = moment (tells next.store) next.parts.urls waits in
    let new : Moment = moment (tells last.yard.store) last.yard.parts.urls (waiting_at last.arrays.items) in
    let merges = c.in_ok-merge_if_due.ensures.merges in
    let ran = merges.ran in
    let none : IsDue was.yard.parts.urls → ⊥ = search rules in
    let idle = merges.idle none in
    let same : mid ≡ old = same_moment tells was.yard.store next.store was.yard.parts.urls next.parts.urls waits idle.1 idle.2 in
    let out = err_from_is_err_and c.from_residual-in_err-flush_all.result c.from_residual-in_err-flush_all.ensures.1 in
    let is = out.1 ∙ ap (λ e. Err e) out.2 in
    refused_uneven c.flush_all.result c.from_residual-in_err-flush_all.result _ one_more old new c.in_err-flush_all.was is (λ b. omega arith)
    (subst (λ (m : Moment). Schedules c.flush_all.result 0 one_more [] m new) same c.flush_all.ensures.schedules)

pub returns-in_err-flush_all-clause-flushes : goal.returns-in_err-flush_all-clause-flushes
returns-in_err-flush_all-clause-flushes g c =
    let tells = g.S.Store.told in
    let was = c.args.self.now in
    let next = c.merge_if_due.new.self in
    let last = c.flush_all.new.self in
    let waits = waiting_at was.arrays.items in
    let old : Moment = moment (tells was.yard.store) was.yard.parts.urls waits in
    let mid : Moment = moment (tells next.store) next.parts.urls waits in
    let new : Moment = moment (tells last.yard.store) last.yard.parts.urls (waiting_at last.arrays.items) in
    let merges = c.in_ok-merge_if_due.ensures.merges in
    let ran = merges.ran in
    let none : IsDue was.yard.parts.urls → ⊥ = search rules in
    let idle = merges.idle none in
    let same : mid ≡ old = same_moment tells was.yard.store next.store was.yard.parts.urls next.parts.urls waits idle.1 idle.2 in
    let out = err_from_is_err_and c.from_residual-in_err-flush_all.result c.from_residual-in_err-flush_all.ensures.1 in
    let is = out.1 ∙ ap (λ e. Err e) out.2 in
    subst (λ (m : Moment). FlushesWaiting c.from_residual-in_err-flush_all.result m new) same
    (flush_refused_by c.flush_all.result c.from_residual-in_err-flush_all.result _ mid new c.in_err-flush_all.was is c.flush_all.ensures.ordered (λ some. merges.ready))

pub returns-in_err-flush_all-clause-goes_on : goal.returns-in_err-flush_all-clause-goes_on
returns-in_err-flush_all-clause-goes_on g c =
    let out = err_from_is_err_and c.from_residual-in_err-flush_all.result c.from_residual-in_err-flush_all.ensures.1 in
    sound_on c.flush_all.result c.from_residual-in_err-flush_all.result _ c.flush_all.new.self.yard.parts c.in_err-flush_all.was (out.1 ∙ ap (λ e. Err e) out.2) c.flush_all.ensures.goes_on

pub returns-clause-schedules : goal.returns-clause-schedules
returns-clause-schedules g c =
    let tells = g.S.Store.told in
    let was = c.args.self.now in
    let next = c.merge_if_due.new.self in
    let last = c.flush_all.new.self in
    let waits = waiting_at was.arrays.items in
    let old : Moment = moment (tells was.yard.store) was.yard.parts.urls waits in
    let mid : Moment = moment (tells next.store) next.parts.urls waits in
    let new : Moment = moment (tells last.yard.store) last.yard.parts.urls (waiting_at last.arrays.items) in
    let merges = c.in_ok-merge_if_due.ensures.merges in
    let ran = merges.ran in
    let none : IsDue was.yard.parts.urls → ⊥ = search rules in
    let idle = merges.idle none in
    let same : mid ≡ old = same_moment tells was.yard.store next.store was.yard.parts.urls next.parts.urls waits idle.1 idle.2 in
    subst (λ (m : Moment). Schedules (Ok Ready) 0 one_more [] m new) same (answers_ok c.flush_all.result _ Ready 0 one_more [] mid new c.in_ok-flush_all.was c.flush_all.ensures.schedules)

pub returns-clause-flushes : goal.returns-clause-flushes
returns-clause-flushes g c =
    let tells = g.S.Store.told in
    let was = c.args.self.now in
    let next = c.merge_if_due.new.self in
    let last = c.flush_all.new.self in
    let waits = waiting_at was.arrays.items in
    let old : Moment = moment (tells was.yard.store) was.yard.parts.urls waits in
    let mid : Moment = moment (tells next.store) next.parts.urls waits in
    let new : Moment = moment (tells last.yard.store) last.yard.parts.urls (waiting_at last.arrays.items) in
    let merges = c.in_ok-merge_if_due.ensures.merges in
    let ran = merges.ran in
    let none : IsDue was.yard.parts.urls → ⊥ = search rules in
    let idle = merges.idle none in
    let same : mid ≡ old = same_moment tells was.yard.store next.store was.yard.parts.urls next.parts.urls waits idle.1 idle.2 in
    subst (λ (m : Moment). FlushesWaiting (Ok Ready) m new) same (flush_done mid new (λ some. merges.ready) c.in_ok-flush_all.ensures.emptied)
