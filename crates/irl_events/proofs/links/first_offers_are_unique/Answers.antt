use Rattle.irl_events.proofs.LinkLemmas.{uniques-firsts}
use Rattle.irl_events.proofs.links.first_offers_are_unique.Goals as goal

pub returns : goal.returns
returns c = uniques-firsts
