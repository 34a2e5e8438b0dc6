-- so many outcomes are put behind the count and the fronts
use Rattle.std.proofs.Common.{◌≡◌, ◌++◌, take, length}
use Rattle.std.specs.List.{flat_map}
use Rattle.std.specs.Int.{w32, w64, to_le_bytes}
use Rattle.irl_log.specs.Spelling.{done_bytes}
use Rattle.irl_log.proofs.Pieces.{draft}
use Rattle.irl_log.proofs.codec.spelling.put_settle.Given as goal

abbrev pub invariant-loop-one : goal.invariant-loop-one
invariant-loop-one l =
    l.frame ≡ draft l.fn.frame.room (((l.fn.frame.bytes ++ to_le_bytes w32 (length l.done)) ++ flat_map (to_le_bytes w64) l.fronts) ++ flat_map done_bytes (take l.one-index l.done))
