use Rattle.std.proofs.Common.{Ok, take}
use Rattle.irl_ledger.specs.Running.{HandsIn}
use Rattle.irl_ledger.specs.Sending.{IsStrangeIn, links_of}
use Rattle.irl_ledger.proofs.sending.offer_part.Given as goal

abbrev pub invariant-loop-i : goal.invariant-loop-i
invariant-loop-i g l = HandsIn {A = Unit {0}} (Ok (tt {0})) (IsStrangeIn l.from l.part) (links_of l.suffixes (take l.i l.part)) l.initial.arrays l.arrays l.initial.pairs l.pairs
    (g.S.Store.told l.initial.store) (g.S.Store.told l.store)
