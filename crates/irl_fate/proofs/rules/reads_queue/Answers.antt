use Rattle.std.proofs.Common.{◌<◌, length, sym, arith}
use Rattle.std.proofs.lemmas.List.{length-map}
use Rattle.irl_offer.specs.declared.place.Place.{Place}
use Rattle.irl_events.specs.Events.{numbers_of}
use Rattle.irl_fate.proofs.RuleLemmas.{read_short}
use Rattle.irl_fate.proofs.rules.reads_queue.Goals as goal

pub returns-then-places-queue : goal.returns-then-places-queue
returns-then-places-queue c =
    let numbers = numbers_of c.args.places.now in
    let short : length numbers < length c.args.queue.now = omega (arith, length-map c.args.places.now (λ (p : Place). p.number)) in
    sym (read_short c.args.queue.now c.args.from c.args.to numbers short)
