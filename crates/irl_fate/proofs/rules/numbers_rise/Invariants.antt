use Rattle.std.proofs.Common.{◌≡◌, drop}
use Rattle.irl_events.specs.Events.{numbers_of}
use Rattle.irl_events.specs.Legal.{are_rising}
use Rattle.irl_fate.proofs.rules.numbers_rise.Given as goal

-- all rises where the rest does
abbrev pub invariant-loop-place : goal.invariant-loop-place
invariant-loop-place l =
    are_rising l.from l.to (numbers_of l.places) ≡ are_rising l.least l.to (numbers_of (drop l.place-index l.places))
