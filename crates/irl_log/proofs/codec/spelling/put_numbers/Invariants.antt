-- so many of them are put
use Rattle.std.proofs.Common.{◌≡◌, ◌++◌, take}
use Rattle.std.specs.List.{flat_map}
use Rattle.std.specs.Int.{w64, to_le_bytes}
use Rattle.irl_log.proofs.Pieces.{draft}
use Rattle.irl_log.proofs.codec.spelling.put_numbers.Given as goal

abbrev pub invariant-loop-number : goal.invariant-loop-number
invariant-loop-number l = l.frame ≡ draft l.fn.frame.room (l.fn.frame.bytes ++ flat_map (to_le_bytes w64) (take l.number-index l.numbers))
