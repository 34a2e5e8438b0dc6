use Rattle.std.proofs.Common.{◌≡◌, ◌++◌, Err, drop, false, ap}
use Rattle.irl_disk.proofs.Effects.{cause_for}
use Rattle.irl_record.specs.Reading.{tape_of}
use Rattle.irl_record.specs.declared.reading.TapeFault.TheVariants.{Failed as TapeFailed}
use Rattle.irl_top.specs.Crawled.{crawl_task, IsReadBy, IsReadWhole}
use Rattle.irl_top.specs.Outside.{stream}
use Rattle.irl_top.specs.Ports.{ports_of}
use Rattle.irl_top.specs.Stream.{Stream}
use Rattle.irl_top.proofs.CrawlInputs.{goes_crawled, goes_nowhere, goes_unread}
use Rattle.irl_top.proofs.Giving.{more_by_aimed}
use Rattle.irl_top.proofs.PortsGoing.{ports_aimed, ports_same, ports_uncalled}
use Rattle.irl_top.proofs.crawling.crawl_ports_over.Given.{Over}
use Rattle.irl_disk.specs.Images.{IsConsistent}
use Rattle.irl_top.proofs.crawling.crawl_ports_over.Goals as goal

-- what a store that may be sent keeps in every thread, it keeps in this one
abbrev consistent : (g : Over) (store : g.row.S.Denot) → IsConsistent (g.S.Store.told store)
consistent g = (g.met.S.Store g.world.𝓛 g.world.𝓜 g.world.𝓡 ((λ s x. x), (λ x. x), (λ x. x), λ x. x)).is_consistent

pub returns-in-Err-clause-over : goal.returns-in-Err-clause-over
returns-in-Err-clause-over g c =
    let tells = g.S.Store.told in
    let told = ports_of g.P.Link.connections g.P.Link.faults in
    let yard = c.args.yard in
    let old : Stream = record { bytes = g.I.Source.left c.args.input.now; faults = g.I.Source.faults c.args.input.now } in
    let new : Stream = record { bytes = g.I.Source.left c.read.new.source; faults = g.I.Source.faults c.read.new.source } in
    let sink = stream g.O.Sink.written g.O.Sink.faults c.args.output.now in
    let fault = c.in-Err.fault in
    let law = consistent g yard.store in
    let task = crawl_task c.args.options.now c.args.number (told c.args.ports.now) (told c.args.ports.now) in
    rw c.ending_of_tape.ensures
    (goes_unread task fault yard.parts (tells yard.store) old new sink law c.is_sound-is_sound.ensures.drum c.requires.sound yard.rest_is c.requires.kind
    (λ n is. c.in-Err.ensures.refused n (ap Err is))
    (cause_for _ (fault ≡ TapeFailed) old.faults new.faults (λ is. ap Err is) c.in-Err.ensures.cause))

pub returns-in-Err-clause-ports : goal.returns-in-Err-clause-ports
returns-in-Err-clause-ports g c = ports_same (ports_of g.P.Link.connections g.P.Link.faults c.args.ports.now)

pub returns-in_default-clause-over : goal.returns-in_default-clause-over
returns-in_default-clause-over g c =
    let tells = g.S.Store.told in
    let told = ports_of g.P.Link.connections g.P.Link.faults in
    let yard = c.args.yard in
    let old : Stream = record { bytes = g.I.Source.left c.args.input.now; faults = g.I.Source.faults c.args.input.now } in
    let new : Stream = record { bytes = g.I.Source.left c.read.new.source; faults = g.I.Source.faults c.read.new.source } in
    let sink = stream g.O.Sink.written g.O.Sink.faults c.args.output.now in
    let law = consistent g yard.store in
    let task = crawl_task c.args.options.now c.args.number (told c.args.ports.now) (told (c.aim_all.new.fetchers ++ drop c.args.options.now.workers c.args.ports.now)) in
    goes_nowhere task yard.parts (tells yard.store) old new sink law c.is_sound-is_sound.ensures.drum c.requires.sound yard.rest_is c.requires.kind
    c.in-Ok.ensures.cause.later

pub returns-in_default-clause-ports : goal.returns-in_default-clause-ports
returns-in_default-clause-ports g c =
    ports_uncalled g.P.Link.connections g.P.Link.faults c.args.options.now.workers c.args.ports.now c.aim_all.new.fetchers c.aim_all.ensures.ports

pub returns-clause-over : goal.returns-clause-over
returns-clause-over g c =
    let tells = g.S.Store.told in
    let was = c.args.yard in
    let now = c.crawl_tape.result.1 in
    let old : Stream = record { bytes = g.I.Source.left c.args.input.now; faults = g.I.Source.faults c.args.input.now } in
    let new : Stream = record { bytes = g.I.Source.left c.read.new.source; faults = g.I.Source.faults c.read.new.source } in
    let sink = stream g.O.Sink.written g.O.Sink.faults in
    let more = more_by_aimed g.P.Link.connections g.P.Link.faults c.args.number c.args.options.now.agent c.args.options.now.workers c.args.ports.now
    c.aim_all.new.fetchers c.crawl_tape.new.fetchers c.requires.some c.in-Ok-aim_all.ensures.aimed c.crawl_tape.ensures.fetchers in
    goes_crawled c.args.options.now (IsReadBy (tape_of false)) IsReadWhole _ _ c.in-Ok.tape more c.crawl_tape.result.0 was.parts now.parts (tells was.store) (tells now.store) old new
    (sink c.args.output.now) (sink c.crawl_tape.new.output) c.in-Ok.ensures.value c.in-Ok.ensures.end c.in-Ok.ensures.cause.later c.crawl_tape.ensures.tape

pub returns-clause-ports : goal.returns-clause-ports
returns-clause-ports g c =
    ports_aimed g.P.Link.connections g.P.Link.faults c.args.number c.args.options.now.agent c.args.options.now.workers c.args.ports.now c.aim_all.new.fetchers
    c.crawl_tape.new.fetchers c.requires.some c.in-Ok-aim_all.ensures.aimed c.crawl_tape.ensures.fetchers
