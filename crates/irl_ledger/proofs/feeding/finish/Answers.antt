use Rattle.std.proofs.Common.{◌∙◌, ◌+◌, ◌<◌, [], Err, sym, ap, subst, arith}
use Rattle.std.proofs.lemmas.Result.{err_from_is_err_and}
use Rattle.irl_offer.specs.declared.settings.Settings.{Settings}
use Rattle.irl_schedule.specs.Schedule.{none_more, one_more}
use Rattle.irl_schedule.proofs.Outcomes.{ok_weaker}
use Rattle.irl_schedule.specs.Arrays.{AreArrays}
use Rattle.irl_ledger.specs.Running.{nowhere}
use Rattle.irl_ledger.proofs.Handing.{feeding_both, feeding_err, feeding_merge, feeding_more, feeding_ok, feeding_then, open_after}
use Rattle.irl_ledger.proofs.feeding.finish.Goals as goal

pub flush_all-requires-clause-long : goal.flush_all-requires-clause-long
flush_all-requires-clause-long g c =
    let goes = open_after _ c.merge_if_due.new.bay (g.S.Store.told c.merge_if_due.new.store) c.in_ok-merge_if_due.ensures.goes_on in
    goes.long (goes.sound (λ failed. let no : ⊥ = cc in absurd no))

pub flush_all-requires-clause-arrays : goal.flush_all-requires-clause-arrays
flush_all-requires-clause-arrays g c = subst (λ (s : Settings). AreArrays s c.args.arrays.now) (sym (c.merge_if_due.ensures.schedules (λ n. [])).stays.settings) c.requires.arrays

pub returns-in_err-merge_if_due-clause-feeds : goal.returns-in_err-merge_if_due-clause-feeds
returns-in_err-merge_if_due-clause-feeds g c =
    let told = g.S.Store.told in
    let arrays = c.args.arrays.now in
    let old = c.args.bay.now in
    let new = c.merge_if_due.new.bay in
    let s = told c.args.store.now in
    let t = told c.merge_if_due.new.store in
    let out = err_from_is_err_and c.from_residual.result c.from_residual.ensures.1 in
    feeding_err c.merge_if_due.result c.from_residual.result _ nowhere 1 one_more [] arrays arrays old new s t c.in_err-merge_if_due.was (out.1 ∙ ap (λ e. Err e) out.2)
    (feeding_more c.merge_if_due.result nowhere 0 1 none_more one_more [] arrays arrays old new s t (omega arith) (λ b. omega arith)
    (feeding_merge c.merge_if_due.result 0 none_more arrays old new s t c.requires.arrays c.merge_if_due.ensures.schedules c.merge_if_due.ensures.goes_on))

pub returns-in_err-flush_all-clause-feeds : goal.returns-in_err-flush_all-clause-feeds
returns-in_err-flush_all-clause-feeds g c =
    let told = g.S.Store.told in
    let arrays = c.args.arrays.now in
    let later = c.flush_all.new.arrays in
    let old = c.args.bay.now in
    let mid = c.merge_if_due.new.bay in
    let new = c.flush_all.new.bay in
    let s = told c.args.store.now in
    let t = told c.merge_if_due.new.store in
    let u = told c.flush_all.new.store in
    let first = feeding_ok c.merge_if_due.result _ (tt {0}) nowhere 0 none_more [] arrays arrays old mid s t c.in_ok-merge_if_due.was
    (feeding_merge c.merge_if_due.result 0 none_more arrays old mid s t c.requires.arrays c.merge_if_due.ensures.schedules c.merge_if_due.ensures.goes_on) in
    let out = err_from_is_err_and c.from_residual-in_err-flush_all.result c.from_residual-in_err-flush_all.ensures.1 in
    feeding_err c.flush_all.result c.from_residual-in_err-flush_all.result _ nowhere 1 one_more [] arrays later old new s u c.in_err-flush_all.was (out.1 ∙ ap (λ e. Err e) out.2)
    (feeding_more c.flush_all.result nowhere 0 1 one_more one_more [] arrays later old new s u (omega arith) (λ b. omega arith)
    (feeding_both (tt {0}) c.flush_all.result nowhere 0 one_more [] [] arrays arrays later old mid new s t u (g.met.S.Store.is_consistent c.merge_if_due.new.store) first c.flush_all.ensures.feeds))

pub returns-clause-feeds : goal.returns-clause-feeds
returns-clause-feeds g c =
    let told = g.S.Store.told in
    let arrays = c.args.arrays.now in
    let later = c.flush_all.new.arrays in
    let old = c.args.bay.now in
    let mid = c.merge_if_due.new.bay in
    let flushed = c.flush_all.new.bay in
    let new = c.merge_rest.new.bay in
    let s = told c.args.store.now in
    let t = told c.merge_if_due.new.store in
    let u = told c.flush_all.new.store in
    let w = told c.merge_rest.new.store in
    let first = feeding_ok c.merge_if_due.result _ (tt {0}) nowhere 0 none_more [] arrays arrays old mid s t c.in_ok-merge_if_due.was
    (feeding_merge c.merge_if_due.result 0 none_more arrays old mid s t c.requires.arrays c.merge_if_due.ensures.schedules c.merge_if_due.ensures.goes_on) in
    let second = feeding_ok c.flush_all.result _ (tt {0}) nowhere 0 one_more [] arrays later old flushed s u c.in_ok-flush_all.was
    (feeding_both (tt {0}) c.flush_all.result nowhere 0 one_more [] [] arrays arrays later old mid flushed s t u (g.met.S.Store.is_consistent c.merge_if_due.new.store) first
    c.flush_all.ensures.feeds) in
    feeding_more c.merge_rest.result nowhere (0 + 1) 1 (λ b. one_more b + none_more b) one_more [] arrays later old new s w (omega arith) (λ b. omega arith)
    (feeding_then (tt {0}) c.merge_rest.result nowhere 0 1 one_more none_more [] [] arrays later later old flushed new s u w (g.met.S.Store.is_consistent c.flush_all.new.store) second
    (feeding_merge c.merge_rest.result 1 none_more later flushed new u w c.flush_all.ensures.feeds.arrays c.merge_rest.ensures.schedules c.merge_rest.ensures.goes_on))

pub merge_rest-requires-clause-long : goal.merge_rest-requires-clause-long
merge_rest-requires-clause-long g c = let goes = c.in_ok-flush_all.ensures.feeds.goes_on in goes.long (goes.sound (λ failed. let no : ⊥ = cc in absurd no))

pub returns-clause-judged : goal.returns-clause-judged
returns-clause-judged g c =
    let settings = c.flush_all.ensures.feeds.runs.stays.settings ∙ (c.merge_if_due.ensures.schedules (λ n. [])).stays.settings in
    ok_weaker c.merge_rest.result c.merge_rest.ensures.merges.judged (λ judged b within. judged b (subst (λ (s : Settings). b < s.buckets) (sym settings) within))
