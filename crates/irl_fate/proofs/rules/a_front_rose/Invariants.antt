use Rattle.std.proofs.Common.{◌≡◌, drop}
use Rattle.irl_events.specs.Legal.{one_rose}
use Rattle.irl_fate.proofs.rules.a_front_rose.Given as goal

-- what holds of all holds of the rest
abbrev pub invariant-loop-i : goal.invariant-loop-i
invariant-loop-i l = one_rose l.old l.new ≡ one_rose (drop l.i l.old) (drop l.i l.new)
