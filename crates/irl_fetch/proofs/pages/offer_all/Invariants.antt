use Rattle.std.proofs.Common.{◌≡◌, length}
use Rattle.irl_fetch.specs.Telling.{offering}
use Rattle.irl_fetch.proofs.Paging.{Offered}
use Rattle.irl_fetch.proofs.pages.offer_all.Given as goal

abbrev pub invariant-loop-receipts : goal.invariant-loop-receipts
invariant-loop-receipts g l = record {
  far : Offered l.fn.found l.found l.receipts (offering g.O.Offers.entries g.O.Offers.last_fault g.O.Offers.takes g.O.Offers.follows l.fn.sink)
      (offering g.O.Offers.entries g.O.Offers.last_fault g.O.Offers.takes g.O.Offers.follows l.sink);
  calm : g.O.Offers.last_fault l.sink ≡ g.O.Offers.last_fault l.fn.sink;
}

abbrev pub decreases-loop-receipts : goal.decreases-loop-receipts
decreases-loop-receipts g l = length l.found
