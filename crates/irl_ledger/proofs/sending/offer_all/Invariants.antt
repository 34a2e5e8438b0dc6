use Rattle.std.proofs.Common.{◌-◌}
use Rattle.irl_ledger.proofs.LinksOffered.{OfferedTo}
use Rattle.irl_ledger.proofs.sending.offer_all.Given as goal

abbrev pub invariant-loop-at : goal.invariant-loop-at
invariant-loop-at g l = OfferedTo l.suffixes l.from l.at l.urls l.initial.pairs l.pairs l.initial.arrays l.arrays (g.S.Store.told l.initial.store) (g.S.Store.told l.store)

abbrev pub decreases-loop-at : goal.decreases-loop-at
decreases-loop-at g l = l.urls.last.judged - l.at
