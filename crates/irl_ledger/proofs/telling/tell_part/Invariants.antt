use Rattle.irl_ledger.proofs.ToldPairs.{ToldSome}
use Rattle.irl_ledger.proofs.telling.tell_part.Given as goal

abbrev pub invariant-loop-i : goal.invariant-loop-i
invariant-loop-i l = ToldSome l.part l.i l.initial.frontier l.frontier
