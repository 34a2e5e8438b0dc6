use Rattle.std.proofs.Common.{◌≡◌, length}
use Rattle.std.specs.List.{All}
use Rattle.irl_top.specs.Crawled.{playing_at_first}
use Rattle.irl_top.proofs.crawling.players.Given as goal

-- as many so far as were counted, each by the tape
abbrev pub invariant-loop : goal.invariant-loop
invariant-loop l = record { count : length l.fetchers.items ≡ l.counter; each : All (λ f. f ≡ playing_at_first l.tape) l.fetchers.items }
