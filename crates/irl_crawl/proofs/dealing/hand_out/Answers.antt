use Rattle.std.proofs.Common.{◌∙◌, ◌<◌, length, ap, arith}
use Rattle.std.specs.Iterator.Adapters.{enumerate_source, enumerate_count}
use Rattle.std.proofs.lemmas.Iterator.Adapters.{YieldsList-from_vec}
use Rattle.std.proofs.lemmas.Iterator.Consumers.{YieldsList-at, YieldsList-from_enumerate, YieldsList-turn}
use Rattle.std.proofs.lemmas.Result.{IfErr-at_err, IfOk-at_ok}
use Rattle.irl_crawl.specs.Workers.{schedules}
use Rattle.irl_crawl.proofs.Taking.{idle_at, placed, shares_of, taken_more, taken_still}
use Rattle.irl_crawl.proofs.dealing.hand_out.Goals as goal

pub load-requires : goal.load-requires
load-requires c =
    let shares = c.args.shares.items in
    let pairs = c.loop-worker.yielded in
    let source = YieldsList-from_vec {s = c.into_iter.result} shares c.into_iter.ensures.rest (c.into_iter.ensures.len ∙ c.args.shares.ok.0) in
    let gives = c.into_iter-worker-iterator.ensures.into_iter_gives in
    let road = YieldsList-from_enumerate {s = c.into_iter-worker-iterator.result} (YieldsList-at (ap enumerate_source gives ∙ c.enumerate-worker-items.ensures.source) source)
    (ap enumerate_count gives ∙ c.enumerate-worker-items.ensures.count) in
    let turn = YieldsList-turn road pairs c.loop-worker.worker-iterator c.loop-worker.yielded_by c.next.result c.next.new.self (c.in-Some.worker, c.in-Some.share) c.in-Some.is c.next.ensures.steps in
    let at = placed shares pairs c.in-Some.worker c.in-Some.share turn in
    let within : c.in-Some.worker < length c.loop-worker.fronts = omega arith in
    idle_at pairs (schedules c.args.fronts.now) c.loop-worker.fronts c.in-Some.worker c.index-fronts-worker.result at.0 within c.loop-worker.invariant c.requires.none

pub loop-worker-preserved : goal.loop-worker-preserved
loop-worker-preserved c =
    let shares = c.args.shares.items in
    let pairs = c.loop-worker.yielded in
    let source = YieldsList-from_vec {s = c.into_iter.result} shares c.into_iter.ensures.rest (c.into_iter.ensures.len ∙ c.args.shares.ok.0) in
    let gives = c.into_iter-worker-iterator.ensures.into_iter_gives in
    let road = YieldsList-from_enumerate {s = c.into_iter-worker-iterator.result} (YieldsList-at (ap enumerate_source gives ∙ c.enumerate-worker-items.ensures.source) source)
    (ap enumerate_count gives ∙ c.enumerate-worker-items.ensures.count) in
    let turn = YieldsList-turn road pairs c.loop-worker.worker-iterator c.loop-worker.yielded_by c.next.result c.next.new.self (c.in-Some.worker, c.in-Some.share) c.in-Some.is c.next.ensures.steps in
    let at = placed shares pairs c.in-Some.worker c.in-Some.share turn in
    let within : c.in-Some.worker < length c.loop-worker.fronts = omega arith in
    let steps = IfOk-at_ok _ c.in_ok-load.was c.load.ensures.ok in
    taken_more pairs (schedules c.args.fronts.now) c.loop-worker.fronts c.in-Some.worker c.index-fronts-worker.result c.load.new.self c.in-Some.share at.0 within c.loop-worker.invariant
    (record { is = steps.1; ready = c.load.ensures.ready })

pub returns-in_err-load-clause-some : goal.returns-in_err-load-clause-some
returns-in_err-load-clause-some c =
    let same = IfErr-at_err _ c.in_err-load.was c.load.ensures.err in (
      shares_of c.loop-worker.yielded,
      taken_still (shares_of c.loop-worker.yielded) (schedules c.args.fronts.now) c.loop-worker.fronts c.in-Some.worker c.index-fronts-worker.result c.load.new.self same c.loop-worker.invariant,
    )
