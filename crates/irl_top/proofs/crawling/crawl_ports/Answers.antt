use Rattle.std.proofs.Common.{rules, refl, sym, subst}
use Rattle.irl_top.specs.Crawled.{crawl_task, CrawlRun}
use Rattle.irl_top.specs.Outside.{Lent, lent}
use Rattle.irl_top.specs.Ports.{ports_of}
use Rattle.irl_top.proofs.CrawlRuns.{kind_agrees, run_opened, run_refused}
use Rattle.irl_top.proofs.PortsGoing.{ports_same}
use Rattle.irl_top.proofs.crawling.crawl_ports.Given.{Over}
use Rattle.irl_disk.specs.Images.{IsConsistent}
use Rattle.irl_top.proofs.crawling.crawl_ports.Goals as goal

-- what a store that may be sent keeps in every thread, it keeps in this one
abbrev consistent : (g : Over) (store : g.row.S.Denot) → IsConsistent (g.S.Store.told store)
consistent g = (g.met.S.Store g.world.𝓛 g.world.𝓜 g.world.𝓡 ((λ s x. x), (λ x. x), (λ x. x), λ x. x)).is_consistent

-- what the three objects tell
abbrev told : (g : Over) → g.row.S.Denot → g.row.I.Denot → g.row.O.Denot → Lent
told g store input output = lent g.S.Store.told g.I.Source.left g.I.Source.faults g.O.Sink.written g.O.Sink.faults store input output

pub crawl_ports_over-ending-requires-clause-kind : goal.crawl_ports_over-ending-requires-clause-kind
crawl_ports_over-ending-requires-clause-kind g c =
    search (rules, kind_agrees c.args.asked.now c.in-Ok.yard.parts.urls.settings c.in-Ok.ensures.opened.agrees c.requires.kind)

pub returns-in-Err-clause-run : goal.returns-in-Err-clause-run
returns-in-Err-clause-run g c =
    let ports = ports_of g.P.Link.connections g.P.Link.faults in
    let before = told g c.args.store c.args.input.now c.args.output.now in
    let after = told g c.in-Err.store c.args.input.now c.args.output.now in
    let task = crawl_task c.args.options.now c.args.number (ports c.args.ports.now) (ports c.args.ports.now) in
    rw c.into.ensures (run_refused task c.args.asked.now before after c.in-Err.fault (consistent g c.in-Err.store) c.in-Err.ensures.refused c.in-Err.ensures.entered_err refl refl)

pub returns-in-Err-clause-ports : goal.returns-in-Err-clause-ports
returns-in-Err-clause-ports g c = ports_same (ports_of g.P.Link.connections g.P.Link.faults c.args.ports.now)

pub returns-clause-run : goal.returns-clause-run
returns-clause-run g c =
    let ports = ports_of g.P.Link.connections g.P.Link.faults in
    let yard = c.in-Ok.yard in
    let later = c.crawl_ports_over-ending.result.1 in
    let ending = c.crawl_ports_over-ending.result.0 in
    let before = told g c.args.store c.args.input.now c.args.output.now in
    let mid = told g yard.store c.args.input.now c.args.output.now in
    let after = told g later.store c.crawl_ports_over-ending.new.input c.crawl_ports_over-ending.new.output in
    let law = consistent g later.store in
    let task = crawl_task c.args.options.now c.args.number (ports c.args.ports.now) (ports c.crawl_ports_over-ending.new.ports) in
    subst (λ (s : g.row.S.Denot). CrawlRun task c.args.asked.now before (told g s c.crawl_ports_over-ending.new.input c.crawl_ports_over-ending.new.output) ending) (sym c.into_store.ensures)
    (run_opened task c.args.asked.now before mid after yard.parts later.parts ending (consistent g c.args.store)
    (consistent g yard.store) law c.in-Ok.ensures.opened.drum c.in-Ok.ensures.opened c.in-Ok.ensures.entered refl
    refl c.crawl_ports_over-ending.ensures.over c.requires.kind later.long later.rest_is)
