use Rattle.std.proofs.Common.{rules, refl, sym, subst}
use Rattle.irl_top.specs.Crawled.{site_task, CrawlRun}
use Rattle.irl_top.specs.Outside.{Lent, lent_beside}
use Rattle.irl_top.specs.Stream.{Stream}
use Rattle.irl_top.proofs.CrawlRuns.{kind_agrees, run_opened, run_refused}
use Rattle.irl_top.proofs.crawling.crawl_site.Given.{Over}
use Rattle.irl_disk.specs.Images.{IsConsistent}
use Rattle.irl_top.proofs.crawling.crawl_site.Goals as goal

-- what a store that may be sent keeps in every thread, it keeps in this one
abbrev consistent : (g : Over) (store : g.row.S.Denot) → IsConsistent (g.S.Store.told store)
consistent g = (g.met.S.Store g.world.𝓛 g.world.𝓜 g.world.𝓡 ((λ s x. x), (λ x. x), (λ x. x), λ x. x)).is_consistent

-- what the store and the output tell
abbrev told : (g : Over) → Stream → g.row.S.Denot → g.row.O.Denot → Lent
told g input store output = lent_beside input g.S.Store.told g.O.Sink.written g.O.Sink.faults store output

pub crawl_site_over-ending-requires-clause-kind : goal.crawl_site_over-ending-requires-clause-kind
crawl_site_over-ending-requires-clause-kind g c =
    search (rules, kind_agrees c.args.asked.now c.in-Ok.yard.parts.urls.settings c.in-Ok.ensures.opened.agrees c.requires.kind)

pub returns-in-Err : goal.returns-in-Err
returns-in-Err g c = λ input.
    let before = told g input c.args.store c.args.output.now in
    let after = told g input c.in-Err.store c.args.output.now in
    rw c.into.ensures (run_refused (site_task c.args.options.now c.args.pages) c.args.asked.now before after c.in-Err.fault (consistent g c.in-Err.store) c.in-Err.ensures.refused
    c.in-Err.ensures.entered_err refl refl)

pub returns : goal.returns
returns g c = λ input.
    let yard = c.in-Ok.yard in
    let later = c.crawl_site_over-ending.result.1 in
    let ending = c.crawl_site_over-ending.result.0 in
    let before = told g input c.args.store c.args.output.now in
    let mid = told g input yard.store c.args.output.now in
    let after = told g input later.store c.crawl_site_over-ending.new.output in
    let law = consistent g later.store in
    let task = site_task c.args.options.now c.args.pages in
    subst (λ (s : g.row.S.Denot). CrawlRun task c.args.asked.now before (told g input s c.crawl_site_over-ending.new.output) ending) (sym c.into_store.ensures)
    (run_opened task c.args.asked.now before mid after yard.parts later.parts ending (consistent g c.args.store)
    (consistent g yard.store) law c.in-Ok.ensures.opened.drum c.in-Ok.ensures.opened c.in-Ok.ensures.entered refl
    refl (c.crawl_site_over-ending.ensures input) c.requires.kind later.long later.rest_is)
