use Rattle.std.proofs.Common.{◌∙◌, ◌++◌, List, ap, take_all}
use Rattle.irl_offer.specs.Tuple.{Tuple}
use Rattle.irl_model.proofs.PlainLemmas.{part_clamped}
use Rattle.irl_model.proofs.plain.push_part.Goals as goal

pub returns : goal.returns
returns c =
    let list = c.args.list.now in
    c.loop-offer.invariant
    ∙ ap (λ (os : List Tuple). c.args.offers.now.items ++ os) (take_all _ _ c.loop-offer-test.false)
    ∙ ap (λ (os : List Tuple). c.args.offers.now.items ++ os) (part_clamped list c.args.from c.args.to c.min-end.result c.min-start.result c.min-end.ensures c.min-start.ensures)
