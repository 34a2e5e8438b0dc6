use Rattle.std.proofs.Common.{map, arith}
use Rattle.std.specs.List.{flat_map}
use Rattle.irl_lock.specs.Sharing.{entries_in}
use Rattle.irl_crawl.specs.Workers.{given_by, schedules}
use Rattle.irl_crawl.proofs.AllWork.{works_none}
use Rattle.irl_crawl.proofs.OverShared.{all_ready, free, fresh_entries, fresh_free, fresh_own, goes_on, moments, order, over, own, parts, works}
use Rattle.irl_crawl.proofs.Rising.{rose_between_same}
use Rattle.irl_crawl.proofs.work.work_all.Goals as goal

pub returns-in-Err-clause-works : goal.returns-in-Err-clause-works
returns-in-Err-clause-works g c =
    let crew = c.args.crew.now in
    let fetchers = c.args.fetchers.now in
    works_none (given_by g.F.Fetch.asked g.F.Fetch.gives g.F.Fetch.faults fetchers fetchers) crew.agent crew.suffixes (schedules crew.fronts.items) (flat_map entries_in c.args.passes.items)
    (map (λ pass. pass.last) c.args.passes.items) (rose_between_same g.F.Fetch.faults fetchers) (omega arith) (fresh_entries c.args.shared.now c.args.passes.items c.requires.fresh) c.requires.agents

pub returns-in-Err-clause-own : goal.returns-in-Err-clause-own
returns-in-Err-clause-own g c = fresh_own c.args.shared.now c.args.passes.items c.requires.fresh

pub returns-in-Err-clause-free : goal.returns-in-Err-clause-free
returns-in-Err-clause-free g c = fresh_free c.args.shared.now c.args.passes.items c.requires.fresh

pub work_side_by_side-requires-clause-ready : goal.work_side_by_side-requires-clause-ready
work_side_by_side-requires-clause-ready g c κs within =
    all_ready c.args.shared.now c.seat_all.new.workers.items c.deref_mut.result.now c.args.passes.items c.replace.result c.args.crew.now.fronts c.deref_mut.ensures.value c.replace.ensures.value
    c.seat_all.ensures.passes c.seat_all.ensures.fronts c.seat_all.ensures.shared c.requires.takes c.requires.fresh c.requires.ready

pub take_back-requires-clause-done : goal.take_back-requires-clause-done
take_back-requires-clause-done g c =
    let crew = c.args.crew.now in
    over g.F.Fetch.asked g.F.Fetch.gives g.F.Fetch.faults g.F.Fetch.last g.F.Fetch.aim crew.agent crew.suffixes c.args.shared.now c.args.fetchers.now c.work_side_by_side.new.fetchers
    c.args.passes.items c.replace.result crew.fronts c.seat_all.new.workers c.deref_mut.result.now c.work_side_by_side.new.workers c.replace.ensures.value c.seat_all.ensures.passes
    c.seat_all.ensures.fronts c.seat_all.ensures.shared c.requires.fresh c.requires.agents c.deref_mut.ensures.value c.work_side_by_side.ensures

pub returns-clause-works : goal.returns-clause-works
returns-clause-works g c =
    let crew = c.args.crew.now in
    works g.F.Fetch.asked g.F.Fetch.gives g.F.Fetch.faults g.F.Fetch.last g.F.Fetch.aim crew.agent crew.suffixes c.args.shared.now c.args.fetchers.now c.work_side_by_side.new.fetchers
    c.args.passes.items c.replace.result crew.fronts c.seat_all.new.workers c.deref_mut.result.now c.work_side_by_side.new.workers c.replace.ensures.value c.seat_all.ensures.passes
    c.seat_all.ensures.fronts c.seat_all.ensures.shared c.requires.fresh c.requires.agents c.deref_mut.ensures.value c.work_side_by_side.ensures
    c.take_back.new.results.items c.take_back.new.passes.items c.take_back.new.fronts.items c.take_back.ensures.results c.take_back.ensures.passes c.take_back.ensures.fronts c.join_all.result
    c.join_all.ensures

pub returns-clause-order : goal.returns-clause-order
returns-clause-order g c =
    let crew = c.args.crew.now in
    order g.F.Fetch.asked g.F.Fetch.gives g.F.Fetch.faults g.F.Fetch.last g.F.Fetch.aim crew.agent crew.suffixes c.args.shared.now c.args.fetchers.now c.work_side_by_side.new.fetchers
    c.args.passes.items c.replace.result crew.fronts c.seat_all.new.workers c.deref_mut.result.now c.work_side_by_side.new.workers c.replace.ensures.value c.seat_all.ensures.passes
    c.seat_all.ensures.fronts c.seat_all.ensures.shared c.requires.fresh c.requires.agents c.deref_mut.ensures.value c.work_side_by_side.ensures
    c.take_back.new.results.items c.take_back.new.passes.items c.take_back.new.fronts.items c.take_back.ensures.results c.take_back.ensures.passes c.take_back.ensures.fronts c.join_all.result
    c.join_all.ensures

pub returns-clause-moments : goal.returns-clause-moments
returns-clause-moments g c =
    let crew = c.args.crew.now in
    moments g.F.Fetch.asked g.F.Fetch.gives g.F.Fetch.faults g.F.Fetch.last g.F.Fetch.aim crew.agent crew.suffixes c.args.shared.now c.args.fetchers.now c.work_side_by_side.new.fetchers
    c.args.passes.items c.replace.result crew.fronts c.seat_all.new.workers c.deref_mut.result.now c.work_side_by_side.new.workers c.replace.ensures.value c.seat_all.ensures.passes
    c.seat_all.ensures.fronts c.seat_all.ensures.shared c.requires.fresh c.requires.agents c.deref_mut.ensures.value c.work_side_by_side.ensures
    c.take_back.new.results.items c.take_back.new.passes.items c.take_back.new.fronts.items c.take_back.ensures.results c.take_back.ensures.passes c.take_back.ensures.fronts c.join_all.result
    c.join_all.ensures

pub returns-clause-own : goal.returns-clause-own
returns-clause-own g c =
    let crew = c.args.crew.now in
    own g.F.Fetch.asked g.F.Fetch.gives g.F.Fetch.faults g.F.Fetch.last g.F.Fetch.aim crew.agent crew.suffixes c.args.shared.now c.args.fetchers.now c.work_side_by_side.new.fetchers
    c.args.passes.items c.replace.result crew.fronts c.seat_all.new.workers c.deref_mut.result.now c.work_side_by_side.new.workers c.replace.ensures.value c.seat_all.ensures.passes
    c.seat_all.ensures.fronts c.seat_all.ensures.shared c.requires.fresh c.requires.agents c.deref_mut.ensures.value c.work_side_by_side.ensures
    c.take_back.new.results.items c.take_back.new.passes.items c.take_back.new.fronts.items c.take_back.ensures.results c.take_back.ensures.passes c.take_back.ensures.fronts

pub returns-clause-free : goal.returns-clause-free
returns-clause-free g c =
    let crew = c.args.crew.now in
    free g.F.Fetch.asked g.F.Fetch.gives g.F.Fetch.faults g.F.Fetch.last g.F.Fetch.aim crew.agent crew.suffixes c.args.shared.now c.args.fetchers.now c.work_side_by_side.new.fetchers
    c.args.passes.items c.replace.result crew.fronts c.seat_all.new.workers c.deref_mut.result.now c.work_side_by_side.new.workers c.replace.ensures.value c.seat_all.ensures.passes
    c.seat_all.ensures.fronts c.seat_all.ensures.shared c.requires.fresh c.requires.agents c.deref_mut.ensures.value c.work_side_by_side.ensures
    c.take_back.new.results.items c.take_back.new.passes.items c.take_back.new.fronts.items c.take_back.ensures.results c.take_back.ensures.passes c.take_back.ensures.fronts

pub returns-clause-parts : goal.returns-clause-parts
returns-clause-parts g c =
    let crew = c.args.crew.now in
    parts g.F.Fetch.asked g.F.Fetch.gives g.F.Fetch.faults g.F.Fetch.last g.F.Fetch.aim crew.agent crew.suffixes c.args.shared.now c.args.fetchers.now c.work_side_by_side.new.fetchers
    c.args.passes.items c.replace.result crew.fronts c.seat_all.new.workers c.deref_mut.result.now c.work_side_by_side.new.workers c.replace.ensures.value c.seat_all.ensures.passes
    c.seat_all.ensures.fronts c.seat_all.ensures.shared c.requires.fresh c.requires.agents c.deref_mut.ensures.value c.work_side_by_side.ensures
    c.take_back.new.results.items c.take_back.new.passes.items c.take_back.new.fronts.items c.take_back.ensures.results c.take_back.ensures.passes c.take_back.ensures.fronts

pub returns-clause-fetchers : goal.returns-clause-fetchers
returns-clause-fetchers g c =
    let crew = c.args.crew.now in
    goes_on g.F.Fetch.asked g.F.Fetch.gives g.F.Fetch.faults g.F.Fetch.last g.F.Fetch.aim crew.agent crew.suffixes c.args.shared.now c.args.fetchers.now c.work_side_by_side.new.fetchers
    c.args.passes.items c.replace.result crew.fronts c.seat_all.new.workers c.deref_mut.result.now c.work_side_by_side.new.workers c.replace.ensures.value c.seat_all.ensures.passes
    c.seat_all.ensures.fronts c.seat_all.ensures.shared c.requires.fresh c.requires.agents c.deref_mut.ensures.value c.work_side_by_side.ensures
    c.take_back.new.results.items c.take_back.new.passes.items c.take_back.new.fronts.items c.take_back.ensures.results c.take_back.ensures.passes c.take_back.ensures.fronts
