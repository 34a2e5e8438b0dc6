-- what was read are outcomes, and so is what is left, if all are
use Rattle.std.proofs.Common.{length}
use Rattle.irl_log.specs.Form.{IsDone}
use Rattle.irl_log.specs.Spelling.{done_bytes}
use Rattle.irl_log.proofs.Runs.{HasRead, AreDones}
use Rattle.irl_log.proofs.codec.reading.read_done.Given as goal

abbrev pub invariant-loop-rest : goal.invariant-loop-rest
invariant-loop-rest l = HasRead done_bytes IsDone l.bytes l.rest l.done × (AreDones l.bytes → AreDones l.rest)

abbrev pub decreases-loop-rest : goal.decreases-loop-rest
decreases-loop-rest l = length l.rest
