use Rattle.std.proofs.Common.{ℕ, List, ◌++◌, take}
use Rattle.irl_offer.specs.declared.outcome.Outcome.{Outcome}
use Rattle.irl_frontier.specs.Tallies.{HasTally}
use Rattle.irl_frontier.proofs.tally.with_done.Given as goal

abbrev pub invariant-loop-one : goal.invariant-loop-one
invariant-loop-one l = (before : List (ℕ × Outcome)) → HasTally l.tally before → HasTally l.more (before ++ take l.one-index l.done)
