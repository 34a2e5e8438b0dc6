-- The text so far, and that of the rest, is the text of the value.
use Rattle.std.proofs.Common.{ℕ, List, ◌++◌, length}
use Rattle.irl_scan.specs.Reading.{HasText}
use Rattle.irl_scan.proofs.reference.read_text.Given as goal

abbrev pub invariant-loop-first : goal.invariant-loop-first
invariant-loop-first l = (text : List ℕ) → HasText l.rest text → HasText l.fn.value (l.bytes.items ++ text)

abbrev pub decreases-loop-first : goal.decreases-loop-first
decreases-loop-first l = length l.rest
