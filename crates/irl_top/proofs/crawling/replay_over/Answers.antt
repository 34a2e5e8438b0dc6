use Rattle.std.proofs.Common.{◌≡◌, Err, true, ap, subst, sym}
use Rattle.std.specs.List.{All}
use Rattle.irl_disk.proofs.Effects.{cause_for}
use Rattle.irl_record.specs.Reading.{tape_of}
use Rattle.irl_record.specs.declared.reading.TapeFault.TheVariants.{Failed as TapeFailed}
use Rattle.irl_top.specs.Crawled.{given_by_tape, playing_at_first, replay_task, IsReadBy, IsReadWhole}
use Rattle.irl_top.specs.Outside.{stream}
use Rattle.irl_top.specs.Stream.{Stream}
use Rattle.irl_top.proofs.CrawlInputs.{goes_crawled, goes_nowhere, goes_unread}
use Rattle.irl_top.proofs.Giving.{more_by_tape}
use Rattle.irl_top.proofs.crawling.replay_over.Given.{Over}
use Rattle.irl_disk.specs.Images.{IsConsistent}
use Rattle.irl_top.proofs.crawling.replay_over.Goals as goal

-- what a store that may be sent keeps in every thread, it keeps in this one
abbrev consistent : (g : Over) (store : g.row.S.Denot) → IsConsistent (g.S.Store.told store)
consistent g = (g.met.S.Store g.world.𝓛 g.world.𝓜 g.world.𝓡 ((λ s x. x), (λ x. x), (λ x. x), λ x. x)).is_consistent

pub returns-in-Err : goal.returns-in-Err
returns-in-Err g c =
    let tells = g.S.Store.told in
    let yard = c.args.yard in
    let old : Stream = record { bytes = g.I.Source.left c.args.input.now; faults = g.I.Source.faults c.args.input.now } in
    let new : Stream = record { bytes = g.I.Source.left c.read.new.source; faults = g.I.Source.faults c.read.new.source } in
    let sink = stream g.O.Sink.written g.O.Sink.faults c.args.output.now in
    let fault = c.in-Err.fault in
    let law = consistent g yard.store in
    rw c.ending_of_tape.ensures
    (goes_unread (replay_task c.args.options.now) fault yard.parts (tells yard.store) old new sink law c.is_sound-is_sound.ensures.drum c.requires.sound yard.rest_is
    c.requires.kind (λ n is. c.in-Err.ensures.refused n (ap Err is))
    (cause_for _ (fault ≡ TapeFailed) old.faults new.faults (λ is. ap Err is) c.in-Err.ensures.cause))

pub returns-in_default : goal.returns-in_default
returns-in_default g c =
    let yard = c.args.yard in
    let old : Stream = record { bytes = g.I.Source.left c.args.input.now; faults = g.I.Source.faults c.args.input.now } in
    let new : Stream = record { bytes = g.I.Source.left c.read.new.source; faults = g.I.Source.faults c.read.new.source } in
    let sink = stream g.O.Sink.written g.O.Sink.faults c.args.output.now in
    goes_nowhere (replay_task c.args.options.now) yard.parts (g.S.Store.told yard.store) old new sink (consistent g yard.store) c.is_sound-is_sound.ensures.drum c.requires.sound
    yard.rest_is c.requires.kind c.in-Ok.ensures.cause.later

pub returns : goal.returns
returns g c =
    let tells = g.S.Store.told in
    let was = c.args.yard in
    let now = c.crawl_tape.result.1 in
    let old : Stream = record { bytes = g.I.Source.left c.args.input.now; faults = g.I.Source.faults c.args.input.now } in
    let new : Stream = record { bytes = g.I.Source.left c.read.new.source; faults = g.I.Source.faults c.read.new.source } in
    let sink = stream g.O.Sink.written g.O.Sink.faults in
    goes_crawled c.args.options.now (IsReadBy (tape_of true)) IsReadWhole given_by_tape _ c.in-Ok.tape
    (more_by_tape c.in-Ok.tape c.deref_mut.result.now c.crawl_tape.new.fetchers
    (subst (All (λ f. f ≡ playing_at_first c.in-Ok.tape)) (sym c.deref_mut.ensures.value) c.in-Ok-players.ensures.each) c.crawl_tape.ensures.fetchers)
    c.crawl_tape.result.0 was.parts now.parts (tells was.store) (tells now.store)
    old new (sink c.args.output.now) (sink c.crawl_tape.new.output) c.in-Ok.ensures.value c.in-Ok.ensures.end c.in-Ok.ensures.cause.later c.crawl_tape.ensures.tape
