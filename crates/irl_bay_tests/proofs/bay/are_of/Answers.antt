use Rattle.std.proofs.Common.{◌≡◌, ◌∙◌, take_all, subst, sym, ap}
use Rattle.std.specs.List.{AllByRecursion}
use Rattle.irl_offer.specs.Tuple.{Tuple}
use Rattle.irl_offer.specs.Buckets.{bucket_of}
use Rattle.irl_layout.proofs.Runs.{all_more}
use Rattle.irl_bay_tests.proofs.bay.are_of.Goals as goal

pub loop-offer-preserved : goal.loop-offer-preserved
loop-offer-preserved c =
    all_more (λ (offer : Tuple). bucket_of c.args.buckets offer.key ≡ c.args.b) c.args.offers.now c.loop-offer.offer-index c.offer-item.result c.loop-offer-test.true c.offer-item.is
    c.loop-offer.invariant
    (ap (λ (offer : Tuple). bucket_of c.args.buckets offer.key) (sym c.offer.view_is) ∙ sym c.bucket_of.ensures.value ∙ c.if-bucket_of-b.false)

pub returns : goal.returns
returns c = λ yes. subst (AllByRecursion (λ (offer : Tuple). bucket_of c.args.buckets offer.key ≡ c.args.b)) (take_all c.loop-offer.offer-index c.args.offers.now c.loop-offer-test.false)
    c.loop-offer.invariant
