use Rattle.irl_polite.specs.Inside.{schedule}
use Rattle.irl_fetch.specs.Telling.{Fetcher, Offering, fetcher, offering}
use Rattle.irl_fetch.proofs.Joining.{SoFar}
use Rattle.irl_fetch.proofs.working.work.Given.{Over}
use Rattle.irl_fetch.proofs.working.work.Given as goal

abbrev pub seen : (g : Over) → g.row.F.Denot → Fetcher
seen g fetch = fetcher g.F.Fetch.asked g.F.Fetch.gives g.F.Fetch.faults g.F.Fetch.last g.F.Fetch.aim fetch

abbrev pub way : (g : Over) → g.row.O.Denot → Offering g.row.O.Denot
way g offers = offering g.O.Offers.entries g.O.Offers.last_fault g.O.Offers.takes g.O.Offers.follows offers

abbrev pub invariant-loop : goal.invariant-loop
invariant-loop g l = (goal.iterator-loop g).can_next l.iterator' × (goal.iterator-loop g).is_finite l.iterator'
    × SoFar l.log l.suffixes (seen g l.fn.fetch) (seen g l.fetch) (schedule l.fn.front) (schedule l.front) (way g l.fn.offers) (way g l.offers)
