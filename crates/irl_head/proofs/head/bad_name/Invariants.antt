-- the name's bytes before this one are there
use Rattle.std.proofs.Common.{◌≡◌, take}
use Rattle.irl_head.specs.Head.{head_name}
use Rattle.irl_head.proofs.head.bad_name.Given as goal

abbrev pub invariant-loop-i : goal.invariant-loop-i
invariant-loop-i l = take l.i l.payload ≡ take l.i head_name
