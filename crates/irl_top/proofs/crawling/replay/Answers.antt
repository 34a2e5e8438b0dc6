use Rattle.std.proofs.Common.{rules, refl, sym, subst}
use Rattle.irl_top.specs.Crawled.{replay_task, CrawlRun}
use Rattle.irl_top.specs.Outside.{Lent, lent}
use Rattle.irl_top.proofs.CrawlRuns.{kind_agrees, run_opened, run_refused}
use Rattle.irl_top.proofs.crawling.replay.Given.{Over}
use Rattle.irl_disk.specs.Images.{IsConsistent}
use Rattle.irl_top.proofs.crawling.replay.Goals as goal

-- what a store that may be sent keeps in every thread, it keeps in this one
abbrev consistent : (g : Over) (store : g.row.S.Denot) → IsConsistent (g.S.Store.told store)
consistent g = (g.met.S.Store g.world.𝓛 g.world.𝓜 g.world.𝓡 ((λ s x. x), (λ x. x), (λ x. x), λ x. x)).is_consistent

-- what the three objects tell
abbrev told : (g : Over) → g.row.S.Denot → g.row.I.Denot → g.row.O.Denot → Lent
told g store input output = lent g.S.Store.told g.I.Source.left g.I.Source.faults g.O.Sink.written g.O.Sink.faults store input output

pub replay_over-ending-requires-clause-kind : goal.replay_over-ending-requires-clause-kind
replay_over-ending-requires-clause-kind g c =
    search (rules, kind_agrees c.args.asked.now c.in-Ok.yard.parts.urls.settings c.in-Ok.ensures.opened.agrees c.requires.kind)

pub returns-in-Err : goal.returns-in-Err
returns-in-Err g c =
    let before = told g c.args.store c.args.input.now c.args.output.now in
    let after = told g c.in-Err.store c.args.input.now c.args.output.now in
    rw c.into.ensures (run_refused (replay_task c.args.options.now) c.args.asked.now before after c.in-Err.fault (consistent g c.in-Err.store) c.in-Err.ensures.refused
    c.in-Err.ensures.entered_err refl refl)

pub returns : goal.returns
returns g c =
    let yard = c.in-Ok.yard in
    let later = c.replay_over-ending.result.1 in
    let ending = c.replay_over-ending.result.0 in
    let before = told g c.args.store c.args.input.now c.args.output.now in
    let mid = told g yard.store c.args.input.now c.args.output.now in
    let after = told g later.store c.replay_over-ending.new.input c.replay_over-ending.new.output in
    let law = consistent g later.store in
    subst (λ (s : g.row.S.Denot). CrawlRun (replay_task c.args.options.now) c.args.asked.now before (told g s c.replay_over-ending.new.input c.replay_over-ending.new.output) ending)
    (sym c.into_store.ensures)
    (run_opened (replay_task c.args.options.now) c.args.asked.now before mid after yard.parts later.parts ending (consistent g c.args.store)
    (consistent g yard.store) law c.in-Ok.ensures.opened.drum c.in-Ok.ensures.opened c.in-Ok.ensures.entered refl
    refl c.replay_over-ending.ensures c.requires.kind later.long later.rest_is)
