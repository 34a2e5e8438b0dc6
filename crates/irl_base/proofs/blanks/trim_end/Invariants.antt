use Rattle.std.proofs.Common.{◌≡◌, length}
use Rattle.irl_base.specs.Blanks.{trim_end}
use Rattle.irl_base.proofs.blanks.trim_end.Given as goal

abbrev pub invariant-loop-last : goal.invariant-loop-last
invariant-loop-last l = trim_end l.rest ≡ trim_end l.bytes

abbrev pub decreases-loop-last : goal.decreases-loop-last
decreases-loop-last l = length l.rest
