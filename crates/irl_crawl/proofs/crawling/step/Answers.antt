use Rattle.std.proofs.Common.{arith}
use Rattle.irl_crawl.proofs.Rising.{rose_between_same}
use Rattle.irl_crawl.proofs.Stepping.{pass_steps, turn_steps}
use Rattle.irl_crawl.specs.Workers.{given_by, schedules}
use Rattle.irl_crawl.proofs.RecordsJudged.{none_besides}
use Rattle.irl_crawl.proofs.RecordsThen.{batches_more}
use Rattle.irl_crawl.proofs.RecordsTurned.{none_unless}
use Rattle.irl_crawl.specs.Batches.{a_desk_unless, besides, just}
use Rattle.irl_crawl.proofs.crawling.step.Goals as goal

pub returns-then-front_len-eq0-clause-leads : goal.returns-then-front_len-eq0-clause-leads
returns-then-front_len-eq0-clause-leads g c =
    let f = g.F.Fetch in
    pass_steps (given_by f.asked f.gives f.faults c.args.fetchers.now c.args.fetchers.now) c.args.crew.now.agent c.args.crew.now.suffixes c.args.most c.pass-passed.result c.args.yard.parts
    c.pass-passed.new.yard.parts (g.S.Store.told c.args.yard.store) (g.S.Store.told c.pass-passed.new.yard.store) (rose_between_same f.faults c.args.fetchers.now) (omega arith)
    (schedules c.args.crew.now.fronts.items) c.pass-passed.ensures.none c.pass-passed.ensures.keeps c.pass-passed.ensures.leads

pub returns-clause-leads : goal.returns-clause-leads
returns-clause-leads g c =
    let f = g.F.Fetch in
    turn_steps (given_by f.asked f.gives f.faults c.args.fetchers.now c.turn.new.fetchers) c.args.crew.now.agent c.args.crew.now.suffixes c.args.most c.turn.result.0 c.args.yard.parts
    c.turn.result.1.parts
    (g.S.Store.told c.args.yard.store) (g.S.Store.told c.turn.result.1.store) (schedules c.args.crew.now.fronts.items) (schedules c.turn.new.crew.fronts.items) c.turn.ensures.leads

pub returns-then-front_len-eq0-clause-batches : goal.returns-then-front_len-eq0-clause-batches
returns-then-front_len-eq0-clause-batches g c =
    let tells = g.S.Store.told in
    let was = c.args.yard in
    let now = c.pass-passed.new.yard in
    batches_more _ _ (just 0 0) (just 0 0) (a_desk_unless c.pass-passed.result) (besides 1 0) was.parts now.parts (tells was.store) (tells now.store) (λ failed. failed)
    (none_unless c.pass-passed.result) (none_besides 1 0) c.pass-passed.ensures.batches

pub returns-then-front_len-eq0-clause-refused : goal.returns-then-front_len-eq0-clause-refused
returns-then-front_len-eq0-clause-refused g c = c.pass-passed.ensures.refused

pub returns-clause-refused : goal.returns-clause-refused
returns-clause-refused g c = c.turn.ensures.refused
