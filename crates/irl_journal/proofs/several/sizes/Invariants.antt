use Rattle.std.proofs.Common.{take}
use Rattle.irl_journal.specs.Appending.{HasRoom}
use Rattle.irl_journal.proofs.several.sizes.Given as goal

-- the records so far have room
abbrev pub invariant-loop-i : goal.invariant-loop-i
invariant-loop-i g l = HasRoom l.greatest (take l.i (g.P.Payloads.payloads l.payloads))
