-- so many of them are put
use Rattle.std.proofs.Common.{◌≡◌, ◌++◌, take}
use Rattle.std.specs.List.{flat_map}
use Rattle.byteorder.specs.Endian.{little_bytes}
use Rattle.irl_layout.proofs.commit.put_numbers.Given as goal

abbrev pub invariant-loop-number : goal.invariant-loop-number
invariant-loop-number l = l.frame ≡ record { room = l.fn.frame.room; bytes = l.fn.frame.bytes ++ flat_map (little_bytes 8) (take l.number-index l.numbers) }
