-- what was asked of the settings before this one is as they are kept
use Rattle.irl_head.proofs.Asking.{AgreeBelow}
use Rattle.irl_head.proofs.asked.first_other.Given as goal

abbrev pub invariant-loop-i : goal.invariant-loop-i
invariant-loop-i l = AgreeBelow l.i l.wanted l.kept
