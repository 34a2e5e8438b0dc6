use Rattle.std.proofs.Common.{ℕ, List, length}
use Rattle.irl_journal.proofs.Reading.{AreTaken}
use Rattle.irl_journal.proofs.opening.hand_over.Given as goal

-- the records in front of the rest were taken
abbrev pub invariant-loop-payload : goal.invariant-loop-payload
invariant-loop-payload g l = (payloads : List (List ℕ)) × AreTaken g.V.Visit.takes l.fn.visitor l.visitor l.at l.bytes l.rest payloads

abbrev pub decreases-loop-payload : goal.decreases-loop-payload
decreases-loop-payload g l = length l.rest
