use Rattle.std.proofs.Common.{◌≡◌, ◌++◌, take, drop}
use Rattle.irl_top.specs.Ports.{aimed_all}
use Rattle.irl_top.proofs.crawling.aim_all.Given as goal

-- those before this one are aimed
abbrev pub invariant-loop-fetcher : goal.invariant-loop-fetcher
invariant-loop-fetcher g l = l.fetchers ≡ aimed_all l.number l.agent (take l.fetcher-index l.initial.fetchers) ++ drop l.fetcher-index l.initial.fetchers
