use Rattle.std.proofs.Common.{◌≡◌, drop}
use Rattle.irl_events.specs.Legal.{none_fell}
use Rattle.irl_fate.proofs.rules.no_front_fell.Given as goal

-- what holds of all holds of the rest
abbrev pub invariant-loop-i : goal.invariant-loop-i
invariant-loop-i l = none_fell l.old l.new ≡ none_fell (drop l.i l.old) (drop l.i l.new)
