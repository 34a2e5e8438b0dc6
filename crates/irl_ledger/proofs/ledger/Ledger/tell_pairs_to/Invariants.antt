use Rattle.std.proofs.Common.{Ok, ◌-◌, ◌≤◌}
use Rattle.irl_ledger.specs.Telling.{TellsPairs}
use Rattle.irl_ledger.proofs.ledger.Ledger.tell_pairs_to.Given as goal

abbrev pub invariant-loop-self : goal.invariant-loop-self
invariant-loop-self g l = record {
  tells : TellsPairs (Ok (tt {0})) l.initial.self l.self (g.S.Store.told l.initial.store) (g.S.Store.told l.store);
  within : l.self.frontier.told ≤ l.to;
}

abbrev pub decreases-loop-self : goal.decreases-loop-self
decreases-loop-self g l = l.to - l.self.frontier.told
