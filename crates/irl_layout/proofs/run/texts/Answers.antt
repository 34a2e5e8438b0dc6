use Rattle.std.proofs.Common.{◌≡◌, ◌∙◌, ◌++◌, List, take, ℕ, sym, ap, take_all}
use Rattle.irl_offer.specs.Tuple.{Tuple}
use Rattle.irl_layout.specs.Runs.{texts_of}
use Rattle.irl_layout.proofs.Runs.{one_more_of}
use Rattle.irl_layout.proofs.run.texts.Goals as goal

pub loop-offer-2-preserved : goal.loop-offer-2-preserved
loop-offer-2-preserved c =
    let i = c.loop-offer-2.offer-index in
    let text : c.bytes-in-loop-offer-2.result.now ≡ c.offer-item-in-loop-offer-2.result.aux = c.bytes-in-loop-offer-2.ensures ∙ ap (λ (o : Tuple). o.aux) c.offer-in-loop-offer-2.view_is in
    c.in_ok-extend_from_slice.ensures.items
    ∙ ap (λ (l : List ℕ). l ++ c.bytes-in-loop-offer-2.result.now) c.loop-offer-2.invariant
    ∙ ap (λ (l : List ℕ). texts_of (take i c.args.offers.now) ++ l) text
    ∙ sym (one_more_of (λ (o : Tuple). o.aux) c.args.offers.now i c.offer-item-in-loop-offer-2.result c.loop-offer-2-test.true c.offer-item-in-loop-offer-2.is)

pub returns : goal.returns
returns c = c.loop-offer-2.invariant ∙ ap texts_of (take_all c.loop-offer-2.offer-index c.args.offers.now c.loop-offer-2-test.false)
