use Rattle.std.proofs.Common.{◌≡◌, length}
use Rattle.std.specs.List.{All}
use Rattle.irl_polite.specs.Inside.{schedule}
use Rattle.irl_polite.specs.Schedule.{empty_of}
use Rattle.irl_crawl.proofs.crew.Crew.new.Given as goal

-- as many so far as were counted, each without anything
abbrev pub invariant-loop : goal.invariant-loop
invariant-loop l = record {
  count : length l.fronts.items ≡ l.counter;
  empty : All (λ f. schedule f ≡ empty_of l.plan.delay l.plan.agent) l.fronts.items;
}
