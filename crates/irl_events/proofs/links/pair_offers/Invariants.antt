use Rattle.std.proofs.Common.{◌≡◌, take}
use Rattle.irl_events.specs.Links.{pair_offers as pair_offers_of}
use Rattle.irl_events.proofs.links.pair_offers.Given as goal

-- the pairs of the offers so far
abbrev pub invariant-loop-offer : goal.invariant-loop-offer
invariant-loop-offer g l = l.pairs.items ≡ pair_offers_of (g.D.Domains.domain_of l.domains) (g.D.Domains.key_of l.domains) (take l.offer-index l.judged)
