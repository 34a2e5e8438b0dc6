use Rattle.std.proofs.Common.{length, ap, arith}
use Rattle.std.proofs.lemmas.List.{length-map}
use Rattle.irl_offer.specs.declared.place.Place.{Place}
use Rattle.irl_base.specs.Lists.{items_of, list_at}
use Rattle.irl_events.specs.Events.{Progress, numbers_of}
use Rattle.irl_fate.proofs.Entering.{read_split}
use Rattle.irl_fate.proofs.Steps.{pass_parts}
use Rattle.irl_fate.proofs.fates.Fates.reading.Goals as goal

pub fresh_of-fresh-requires-clause-long : goal.fresh_of-fresh-requires-clause-long
fresh_of-fresh-requires-clause-long c =
    let a = c.self.inside in
    let places = c.args.places.now in
    let parts = pass_parts c.args.self.now c.args.judged places c.requires in
    let split = read_split (list_at c.args.self.now.waiting.lists c.args.self.now.waiting.passes) c.args.self.now.read c.args.judged (numbers_of places) parts.numbers in
    let queue = ap (λ (x : Progress). length (list_at x.waiting.lists x.waiting.passes)) c.self.view_is in
    let lent = ap (λ l. length (list_at (items_of l) a.passes)) c.deref.ensures.value in
    omega (arith, split.long, length-map places (λ (p : Place). p.number), queue, lent)
