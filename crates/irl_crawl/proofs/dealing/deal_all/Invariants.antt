use Rattle.std.proofs.Common.{◌≡◌, length, Ok}
use Rattle.irl_crawl.specs.Dealing.{Deals, ServesOn}
use Rattle.irl_crawl.specs.Workers.{AllGoOn, made_by}
use Rattle.irl_crawl.proofs.dealing.deal_all.Given as goal

-- those so far are dealt out
abbrev pub invariant-loop-work : goal.invariant-loop-work
invariant-loop-work g l = record {
  deals : Deals (Ok tt) l.yielded l.fn.yard.parts l.yard.parts (g.S.Store.told l.fn.yard.store) (g.S.Store.told l.yard.store) l.fn.shares l.shares;
  serves : ServesOn (Ok tt) (length l.fn.fetchers) l.fn.hosts l.hosts l.fn.shares l.shares;
  fetchers : AllGoOn g.F.Fetch.asked g.F.Fetch.gives g.F.Fetch.faults g.F.Fetch.last g.F.Fetch.aim l.fn.fetchers l.fetchers;
  made : made_by g.F.Fetch.asked l.fetchers ≡ made_by g.F.Fetch.asked l.fn.fetchers;
}
