use Rattle.std.proofs.Common.{◌∙◌, ◌<◌, [], Err, sym, ap, subst, arith}
use Rattle.std.proofs.lemmas.Result.{err_from_is_err_and}
use Rattle.irl_offer.specs.declared.settings.Settings.{Settings}
use Rattle.irl_schedule.specs.Feeding.{Moment, moment}
use Rattle.irl_schedule.specs.Schedule.{none_more, one_more}
use Rattle.irl_schedule.proofs.Schedules.{answers_ok, schedules_more, schedules_then}
use Rattle.irl_schedule.specs.Arrays.{AreArrays, waiting_at}
use Rattle.irl_intake.proofs.Steps.{all_done, handed_on, never_full, refused_at_end, refused_by, stops_last}
use Rattle.irl_schedule.proofs.Waits.{none_past}
use Rattle.irl_intake.proofs.intake.Intake.finish.Goals as goal

pub invariant_of-self : goal.invariant_of-self
invariant_of-self g c = record {
  arrays_are = subst (λ (s : Settings). AreArrays s c.flush_all.new.self.arrays.items) (sym (c.merge_rest.ensures.schedules (λ n. [])).stays.settings) c.flush_all.new.self.arrays_are;
}

pub returns-in_err-flush_all-clause-schedules : goal.returns-in_err-flush_all-clause-schedules
returns-in_err-flush_all-clause-schedules g c =
    let tells = g.S.Store.told in
    let was = c.args.self.now in
    let between = c.flush_all.new.self in
    let old : Moment = moment (tells was.yard.store) was.yard.parts.urls (waiting_at was.arrays.items) in
    let mid : Moment = moment (tells between.yard.store) between.yard.parts.urls (waiting_at between.arrays.items) in
    let out = err_from_is_err_and c.from_residual.result c.from_residual.ensures.1 in
    handed_on c.flush_all.result c.from_residual.result _ 1 one_more [] old mid c.in_err-flush_all.was (out.1 ∙ ap (λ e. Err e) out.2)
    (schedules_more c.flush_all.result 0 1 one_more one_more [] old mid (omega arith) (λ n. omega arith) c.flush_all.ensures.schedules)

pub returns-in_err-flush_all-clause-advances : goal.returns-in_err-flush_all-clause-advances
returns-in_err-flush_all-clause-advances g c =
    let out = err_from_is_err_and c.from_residual.result c.from_residual.ensures.1 in
    refused_by c.flush_all.result c.from_residual.result _ _ _ c.in_err-flush_all.was (out.1 ∙ ap (λ e. Err e) out.2) c.flush_all.ensures.ordered c.requires.ready

pub returns-in_err-merge_rest-clause-schedules : goal.returns-in_err-merge_rest-clause-schedules
returns-in_err-merge_rest-clause-schedules g c =
    let tells = g.S.Store.told in
    let was = c.args.self.now in
    let between = c.flush_all.new.self in
    let next = c.merge_rest.new.self in
    let old : Moment = moment (tells was.yard.store) was.yard.parts.urls (waiting_at was.arrays.items) in
    let mid : Moment = moment (tells between.yard.store) between.yard.parts.urls (waiting_at between.arrays.items) in
    let new : Moment = moment (tells next.store) next.parts.urls (waiting_at between.arrays.items) in
    let whole = schedules_then (tt {0}) c.merge_rest.result 0 1 one_more none_more [] [] old mid new (g.met.S.Store.is_consistent between.yard.store) c.flush_all.ensures.last c.flush_all.ensures.cuts
    (answers_ok c.flush_all.result (tt {0}) (tt {0}) 0 one_more [] old mid c.in_ok-flush_all.was c.flush_all.ensures.schedules) (c.merge_rest.ensures.schedules (waiting_at between.arrays.items)) in
    let out = err_from_is_err_and c.from_residual-in_err-merge_rest.result c.from_residual-in_err-merge_rest.ensures.1 in
    handed_on c.merge_rest.result c.from_residual-in_err-merge_rest.result _ 1 one_more [] old new c.in_err-merge_rest.was (out.1 ∙ ap (λ e. Err e) out.2) whole

pub returns-in_err-merge_rest-clause-advances : goal.returns-in_err-merge_rest-clause-advances
returns-in_err-merge_rest-clause-advances g c =
    let tells = g.S.Store.told in
    let was = c.args.self.now in
    let between = c.flush_all.new.self in
    let next = c.merge_rest.new.self in
    let old : Moment = moment (tells was.yard.store) was.yard.parts.urls (waiting_at was.arrays.items) in
    let mid : Moment = moment (tells between.yard.store) between.yard.parts.urls (waiting_at between.arrays.items) in
    let new : Moment = moment (tells next.store) next.parts.urls (waiting_at between.arrays.items) in
    let out = err_from_is_err_and c.from_residual-in_err-merge_rest.result c.from_residual-in_err-merge_rest.ensures.1 in
    let is = out.1 ∙ ap (λ e. Err e) out.2 in
    let buckets = was.yard.parts.urls.settings.buckets in
    refused_at_end c.from_residual-in_err-merge_rest.result _ buckets old new is
    (stops_last old new c.in_ok-flush_all.ensures.emptied (λ n le. none_past was.arrays.items n (omega (arith, was.arrays_are.count, le))))
    (λ m named. never_full c.merge_rest.result c.from_residual-in_err-merge_rest.result _ 1 none_more (tells between.yard.store) (tells next.store) between.yard.parts.urls next.parts.urls m buckets
    c.in_err-merge_rest.was is c.merge_rest.ensures.schedules named) (λ due some. absurd (c.requires.ready some due))

pub returns-clause-schedules : goal.returns-clause-schedules
returns-clause-schedules g c =
    let tells = g.S.Store.told in
    let was = c.args.self.now in
    let between = c.flush_all.new.self in
    let next = c.merge_rest.new.self in
    let old : Moment = moment (tells was.yard.store) was.yard.parts.urls (waiting_at was.arrays.items) in
    let mid : Moment = moment (tells between.yard.store) between.yard.parts.urls (waiting_at between.arrays.items) in
    let new : Moment = moment (tells next.store) next.parts.urls (waiting_at between.arrays.items) in
    let whole = schedules_then (tt {0}) c.merge_rest.result 0 1 one_more none_more [] [] old mid new (g.met.S.Store.is_consistent between.yard.store) c.flush_all.ensures.last c.flush_all.ensures.cuts
    (answers_ok c.flush_all.result (tt {0}) (tt {0}) 0 one_more [] old mid c.in_ok-flush_all.was c.flush_all.ensures.schedules) (c.merge_rest.ensures.schedules (waiting_at between.arrays.items)) in
    answers_ok c.merge_rest.result (tt {0}) _ 1 one_more [] old new c.in_ok-merge_rest.was whole

pub returns-clause-advances : goal.returns-clause-advances
returns-clause-advances g c =
    let tells = g.S.Store.told in
    let was = c.args.self.now in
    let between = c.flush_all.new.self in
    let next = c.merge_rest.new.self in
    let old : Moment = moment (tells was.yard.store) was.yard.parts.urls (waiting_at was.arrays.items) in
    let new : Moment = moment (tells next.store) next.parts.urls (waiting_at between.arrays.items) in
    let judged = c.in_ok-merge_rest.ensures.merges.judged in
    let settings = (c.merge_rest.ensures.schedules (λ n. [])).stays.settings in
    all_done old new c.requires.ready c.in_ok-flush_all.ensures.emptied (λ b within. judged b (subst (λ (s : Settings). b < s.buckets) settings within))
