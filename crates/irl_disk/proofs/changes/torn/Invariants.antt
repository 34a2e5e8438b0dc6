use Rattle.irl_disk.specs.Changes.{TearsRange}
use Rattle.irl_disk.proofs.changes.torn.Given as goal

abbrev pub invariant-loop-i : goal.invariant-loop-i
invariant-loop-i l = TearsRange l.start l.i l.fn.bytes.items l.bytes.items
