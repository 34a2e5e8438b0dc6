use Rattle.irl_fetch.specs.Telling.{fetcher}
use Rattle.irl_fetch.proofs.Chaining.{Chained}
use Rattle.irl_fetch.proofs.robots.fetch_note.Given as goal

abbrev pub invariant-loop-followed : goal.invariant-loop-followed
invariant-loop-followed g l =
    Chained l.fn.host l.asked l.followed (fetcher g.F.Fetch.asked g.F.Fetch.gives g.F.Fetch.faults g.F.Fetch.last g.F.Fetch.aim l.fn.fetch)
    (fetcher g.F.Fetch.asked g.F.Fetch.gives g.F.Fetch.faults g.F.Fetch.last g.F.Fetch.aim l.fetch)
