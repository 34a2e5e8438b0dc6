use Rattle.std.proofs.Common.{◌≡◌, [], length}
use Rattle.std.specs.List.{All}
use Rattle.irl_crawl.proofs.dealing.no_shares.Given as goal

-- as many so far as were counted, each without anything
abbrev pub invariant-loop : goal.invariant-loop
invariant-loop l = record {
  count : length l.shares.items ≡ l.counter;
  empty : All (λ s. (s.items.items ≡ []) × (s.notes.items ≡ [])) l.shares.items;
}
