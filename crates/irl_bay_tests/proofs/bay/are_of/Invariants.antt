use Rattle.std.proofs.Common.{◌≡◌, take}
use Rattle.std.specs.List.{AllByRecursion}
use Rattle.irl_offer.specs.Tuple.{Tuple}
use Rattle.irl_offer.specs.Buckets.{bucket_of}
use Rattle.irl_bay_tests.proofs.bay.are_of.Given as goal

-- the offers so far are of the bucket
abbrev pub invariant-loop-offer : goal.invariant-loop-offer
invariant-loop-offer l = AllByRecursion (λ (offer : Tuple). bucket_of l.buckets offer.key ≡ l.b) (take l.offer-index l.offers)
