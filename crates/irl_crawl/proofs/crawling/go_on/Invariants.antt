use Rattle.std.proofs.Common.{◌≡◌, length}
use Rattle.irl_crawl.proofs.Looping.{RunsOn}
use Rattle.irl_crawl.specs.Batches.{Batches, besides}
use Rattle.irl_crawl.specs.Workers.{schedules}
use Rattle.irl_crawl.proofs.crawling.go_on.Given as goal

abbrev pub invariant-loop : goal.invariant-loop
invariant-loop g l = (goal.iterator-loop g).can_next l.iterator' × (goal.iterator-loop g).is_finite l.iterator'
    × record {
      runs : RunsOn g.F.Fetch.asked g.F.Fetch.gives g.F.Fetch.faults g.F.Fetch.last g.F.Fetch.aim l.fn.crew.agent l.fn.crew.suffixes l.plan.pages l.plan.batch l.left (schedules l.crew.fronts.items)
          l.fn.fetchers l.fetchers
          l.fn.yard.parts l.yard.parts (g.S.Store.told l.fn.yard.store) (g.S.Store.told l.yard.store);
      agent : l.crew.agent ≡ l.fn.crew.agent;
      suffixes : l.crew.suffixes ≡ l.fn.crew.suffixes;
      gates : length l.gates ≡ length l.fn.gates;
      batches : Batches ⊥ (besides 0 0) (besides 1 0) l.fn.yard.parts l.yard.parts (g.S.Store.told l.fn.yard.store) (g.S.Store.told l.yard.store);
    }
