use Rattle.std.proofs.Common.{◌≡◌, length}
use Rattle.irl_base.specs.Blanks.{trim_start}
use Rattle.irl_base.proofs.blanks.trim_start.Given as goal

abbrev pub invariant-loop-first : goal.invariant-loop-first
invariant-loop-first l = trim_start l.rest ≡ trim_start l.bytes

abbrev pub decreases-loop-first : goal.decreases-loop-first
decreases-loop-first l = length l.rest
