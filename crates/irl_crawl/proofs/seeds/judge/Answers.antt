use Rattle.std.proofs.Common.{◌∙◌, Err, ap, IsErrOf, subst, sym}
use Rattle.std.proofs.lemmas.Result.{err_from_is_err_and}
use Rattle.irl_yard.specs.Passing.{suffixes_in}
use Rattle.irl_crawl.proofs.Judging.{judge_both, judge_keeps, judge_refused, merge_leads, no_waits, send_leads}
use Rattle.irl_base.specs.declared.fault.Fault.TheVariants.{Failed}
use Rattle.irl_yard.specs.Sending.{HasBegun}
use Rattle.irl_crawl.proofs.RecordsJudged.{failed_on, judge_batch, merge_within}
use Rattle.irl_crawl.proofs.RecordsOfDesks.{merge_batch, merge_on, no_waiting}
use Rattle.irl_crawl.proofs.RecordsOfPairs.{pairs_batch}
use Rattle.irl_crawl.proofs.RecordsThen.{a_merge, batches_more}
use Rattle.irl_crawl.specs.Batches.{just}
use Rattle.irl_crawl.proofs.Refusing.{refused_merge, refused_on, refused_sends}
use Rattle.irl_crawl.proofs.seeds.judge.Goals as goal

pub returns-in_err-merge_rest-clause-leads : goal.returns-in_err-merge_rest-clause-leads
returns-in_err-merge_rest-clause-leads g c = λ suffixes is.
    let tells = g.S.Store.told in
    let was = c.args.yard.now in
    let next = c.merge_rest.new.self in
    let out = err_from_is_err_and c.from_residual.result c.from_residual.ensures.1 in
    judge_refused suffixes c.merge_rest.result c.from_residual.result c.in_err-merge_rest.field-0.0 was.parts next.parts (tells was.store) (tells next.store) c.in_err-merge_rest.was
    (out.1 ∙ ap (λ e. Err e) out.2)
    (merge_leads c.merge_rest.result was.parts next.parts (tells was.store) (tells next.store) was.rest_is c.is_sound-is_sound.ensures.drum (g.met.S.Store.is_consistent next.store)
    c.requires.open.begun
    (c.merge_rest.ensures.schedules no_waits) c.merge_rest.ensures.merges.judged c.merge_rest.ensures.rest c.merge_rest.ensures.goes_on)

pub returns-clause-leads : goal.returns-clause-leads
returns-clause-leads g c = λ suffixes is.
    let tells = g.S.Store.told in
    let was = c.args.yard.now in
    let mid = c.merge_rest.new.self in
    let last = c.send_pairs.new.self in
    judge_both suffixes c.merge_rest.result c.send_pairs.result c.in_ok-merge_rest.field-0 was.parts mid.parts last.parts (tells was.store) (tells mid.store) (tells last.store) c.in_ok-merge_rest.was
    (merge_leads c.merge_rest.result was.parts mid.parts (tells was.store) (tells mid.store) was.rest_is c.is_sound-is_sound.ensures.drum (g.met.S.Store.is_consistent mid.store) c.requires.open.begun
    (c.merge_rest.ensures.schedules no_waits) c.merge_rest.ensures.merges.judged c.merge_rest.ensures.rest c.merge_rest.ensures.goes_on)
    (send_leads suffixes c.send_pairs.result mid.parts last.parts (tells mid.store) (tells last.store) c.send_pairs.ensures.sends c.send_pairs.ensures.goes_on
    (ap suffixes_in c.merge_rest.ensures.rest ∙ is) last.rest_is (g.met.S.Store.is_consistent last.store))

pub returns-clause-keeps : goal.returns-clause-keeps
returns-clause-keeps g c =
    let was = c.args.yard.now in
    let mid = c.merge_rest.new.self in
    let last = c.send_pairs.new.self in
    judge_keeps c.send_pairs.result was.parts mid.parts last.parts (g.S.Store.told mid.store) (g.S.Store.told last.store) c.requires.open.begun c.merge_rest.ensures.rest c.send_pairs.ensures.sends

pub returns-in_err-merge_rest-clause-batches : goal.returns-in_err-merge_rest-clause-batches
returns-in_err-merge_rest-clause-batches g c =
    let tells = g.S.Store.told in
    let was = c.args.yard.now in
    let next = c.merge_rest.new.self in
    let out = err_from_is_err_and c.from_residual.result c.from_residual.ensures.1 in
    batches_more (IsErrOf c.merge_rest.result Failed) (IsErrOf c.from_residual.result Failed) a_merge a_merge (just 0 1) (just 0 1) was.parts next.parts (tells was.store) (tells next.store)
    (failed_on c.merge_rest.result c.from_residual.result c.in_err-merge_rest.field-0.0 c.in_err-merge_rest.was (out.1 ∙ ap (λ e. Err e) out.2)) merge_within merge_within
    (merge_batch c.merge_rest.result was.parts next.parts (tells was.store) (tells next.store) was.rest_is c.is_sound-is_sound.ensures.drum c.merge_rest.ensures.goes_on.drum
    (g.met.S.Store.is_consistent next.store) c.requires.open.begun (c.merge_rest.ensures.schedules no_waiting) c.merge_rest.ensures.rest)

pub returns-clause-batches : goal.returns-clause-batches
returns-clause-batches g c =
    let tells = g.S.Store.told in
    let law = g.met.S.Store.is_consistent in
    let was = c.args.yard.now in
    let mid = c.merge_rest.new.self in
    let last = c.send_pairs.new.self in
    let merge = c.merge_rest.ensures in
    let drum = c.is_sound-is_sound.ensures.drum in
    let begun = c.requires.open.begun in
    judge_batch c.merge_rest.result c.send_pairs.result c.in_ok-merge_rest.field-0 was.parts mid.parts last.parts (tells was.store) (tells mid.store) (tells last.store) c.in_ok-merge_rest.was
    (merge_on c.merge_rest.result was.parts mid.parts (tells was.store) (tells mid.store) was.rest_is drum merge.goes_on.drum (law mid.store) begun (merge.schedules no_waiting) merge.rest)
    (merge_batch c.merge_rest.result was.parts mid.parts (tells was.store) (tells mid.store) was.rest_is drum merge.goes_on.drum (law mid.store) begun (merge.schedules no_waiting) merge.rest)
    (pairs_batch c.send_pairs.result mid.parts last.parts (tells mid.store) (tells last.store) c.send_pairs.ensures.sends mid.rest_is last.rest_is merge.goes_on.drum
    c.send_pairs.ensures.goes_on.drum (law last.store) (subst HasBegun (sym merge.rest) begun))

pub returns-in_err-merge_rest-clause-refused : goal.returns-in_err-merge_rest-clause-refused
returns-in_err-merge_rest-clause-refused g c =
    let tells = g.S.Store.told in
    let was = c.args.yard.now in
    let next = c.merge_rest.new.self in
    let out = err_from_is_err_and c.from_residual.result c.from_residual.ensures.1 in
    refused_on c.merge_rest.result c.from_residual.result c.in_err-merge_rest.field-0.0 next.parts (tells next.store) c.in_err-merge_rest.was (out.1 ∙ ap (λ e. Err e) out.2)
    (refused_merge c.merge_rest.result was.parts next.parts (tells was.store) (tells next.store) (c.merge_rest.ensures.schedules no_waiting))

pub returns-clause-refused : goal.returns-clause-refused
returns-clause-refused g c =
    let tells = g.S.Store.told in
    let mid = c.merge_rest.new.self in
    let last = c.send_pairs.new.self in
    refused_sends c.send_pairs.result mid.parts last.parts (tells mid.store) (tells last.store) c.merge_rest.ensures.goes_on.drum mid.rest_is
    (subst HasBegun (sym c.merge_rest.ensures.rest) c.requires.open.begun) c.send_pairs.ensures.sends
