use Rattle.std.proofs.Common.{◌≡◌, ◌-◌, ◌≤◌, true, take, drop, max}
use Rattle.std.specs.Option.{ForSome}
use Rattle.irl_model.specs.Book.{Book, gone, judged}
use Rattle.irl_events.specs.Legal.{are_rising}
use Rattle.irl_beast.specs.Passes.{item_numbers}
use Rattle.irl_disk.specs.Effects.{OnlyReads}
use Rattle.irl_bay.specs.Holding.{Holds}
use Rattle.irl_bay.specs.JudgedSpoilt.{IsJudgedFile}
use Rattle.irl_ledger.specs.Crawling.{domain_of}
use Rattle.irl_ledger.specs.Passing.{items_from}
use Rattle.irl_ledger.proofs.fresh.read_items.Given as goal

abbrev pub invariant-loop-at : goal.invariant-loop-at
invariant-loop-at g l = record {
  behind : l.from ≤ l.at;
  within : l.at ≤ max l.from l.to;
  rising : are_rising l.from l.at (item_numbers l.items.items) ≡ true;
  reads : OnlyReads (IsJudgedFile l.urls) ⊥ (g.S.Store.told l.fn.store) (g.S.Store.told l.store);
  found : ForSome (g.S.Store.told l.fn.store).files (λ _. (book : Book) → Holds (g.S.Store.told l.fn.store).images l.urls book
      → l.items.items ≡ items_from (domain_of l.suffixes) l.from (take (l.at - l.from) (drop (l.from - gone book) (judged book))));
}

abbrev pub decreases-loop-at : goal.decreases-loop-at
decreases-loop-at g l = l.to - l.at
