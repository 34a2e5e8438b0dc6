use Rattle.std.proofs.Common.{◌≡◌, refl, subst, sym, arith}
use Rattle.std.specs.List.{All}
use Rattle.irl_top.specs.Crawled.{given_by_tape, playing_at_first, site_task}
use Rattle.irl_top.specs.Outside.{stream}
use Rattle.irl_top.proofs.CrawlInputs.{goes_crawled, goes_nowhere}
use Rattle.irl_top.proofs.Giving.{more_by_tape}
use Rattle.irl_top.proofs.crawling.crawl_site_over.Given.{Over}
use Rattle.irl_disk.specs.Images.{IsConsistent}
use Rattle.irl_top.proofs.crawling.crawl_site_over.Goals as goal

-- what a store that may be sent keeps in every thread, it keeps in this one
abbrev consistent : (g : Over) (store : g.row.S.Denot) → IsConsistent (g.S.Store.told store)
consistent g = (g.met.S.Store g.world.𝓛 g.world.𝓜 g.world.𝓡 ((λ s x. x), (λ x. x), (λ x. x), λ x. x)).is_consistent

pub returns-in-Err : goal.returns-in-Err
returns-in-Err g c = λ input.
    let yard = c.args.yard in
    let sink = stream g.O.Sink.written g.O.Sink.faults c.args.output.now in
    goes_nowhere (site_task c.args.options.now c.args.pages) yard.parts (g.S.Store.told yard.store) input input sink (consistent g yard.store) c.is_sound-is_sound.ensures.drum
    c.requires.sound yard.rest_is c.requires.kind
    (omega arith)

pub returns-in_default : goal.returns-in_default
returns-in_default g c = λ input.
    let yard = c.args.yard in
    let sink = stream g.O.Sink.written g.O.Sink.faults c.args.output.now in
    goes_nowhere (site_task c.args.options.now c.args.pages) yard.parts (g.S.Store.told yard.store) input input sink (consistent g yard.store) c.is_sound-is_sound.ensures.drum
    c.requires.sound yard.rest_is c.requires.kind
    (omega arith)

pub returns : goal.returns
returns g c = λ input.
    let tells = g.S.Store.told in
    let was = c.args.yard in
    let now = c.crawl_tape.result.1 in
    let sink = stream g.O.Sink.written g.O.Sink.faults in
    let task = site_task c.args.options.now c.args.pages in
    goes_crawled c.args.options.now task.reads task.ends given_by_tape _ c.in-Ok.tape
    (more_by_tape c.in-Ok.tape c.deref_mut.result.now c.crawl_tape.new.fetchers
    (subst (All (λ f. f ≡ playing_at_first c.in-Ok.tape)) (sym c.deref_mut.ensures.value) c.in-Ok-players.ensures.each) c.crawl_tape.ensures.fetchers)
    c.crawl_tape.result.0 was.parts now.parts (tells was.store) (tells now.store)
    input input (sink c.args.output.now) (sink c.crawl_tape.new.output) c.in-Ok.ensures refl (omega arith) c.crawl_tape.ensures.tape
