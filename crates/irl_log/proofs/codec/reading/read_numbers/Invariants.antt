-- what was read are numbers, and what is left has eight bytes for each more
use Rattle.std.proofs.Common.{◌≡◌, ◌%◌, length}
use Rattle.std.specs.Int.{w64, to_le_bytes}
use Rattle.irl_log.specs.Form.{IsWord}
use Rattle.irl_log.proofs.Runs.{HasRead}
use Rattle.irl_log.proofs.codec.reading.read_numbers.Given as goal

abbrev pub invariant-loop-number : goal.invariant-loop-number
invariant-loop-number l = HasRead (to_le_bytes w64) IsWord l.bytes l.rest l.numbers × (length l.rest % 8 ≡ 0)

abbrev pub decreases-loop-number : goal.decreases-loop-number
decreases-loop-number l = length l.rest
