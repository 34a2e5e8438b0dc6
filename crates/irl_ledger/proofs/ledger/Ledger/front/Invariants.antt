use Rattle.std.proofs.Common.{◌≡◌, ◌≤◌, length, map, take, vec_capacity}
use Rattle.std.specs.List.{AllByRecursion}
use Rattle.std.specs.Option.{ForSome}
use Rattle.irl_model.specs.Book.{Book}
use Rattle.irl_disk.specs.Effects.{OnlyReads}
use Rattle.irl_bay.specs.Holding.{Holds}
use Rattle.irl_bay.specs.JudgedSpoilt.{IsJudgedFile}
use Rattle.irl_key.specs.declared.web.Work.{Work}
use Rattle.irl_ledger.specs.Passing.{IsWorkOf}
use Rattle.irl_ledger.proofs.ledger.Ledger.front.Given as goal

abbrev pub invariant-loop-number : goal.invariant-loop-number
invariant-loop-number g l = record {
  numbers : map (λ (work : Work). work.number) l.works.items ≡ take l.number-index l.number-items;
  count : length l.works.items ≡ l.number-index;
  room : length l.number-items ≤ vec_capacity l.works;
  reads : OnlyReads (IsJudgedFile l.urls) ⊥ (g.S.Store.told l.fn.store) (g.S.Store.told l.store);
  found : ForSome (g.S.Store.told l.fn.store).files (λ _. (book : Book) → Holds (g.S.Store.told l.fn.store).images l.urls book
      → AllByRecursion (IsWorkOf book) l.works.items);
}
