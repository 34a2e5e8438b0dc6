use Rattle.std.proofs.Common.{◌≡◌, take}
use Rattle.irl_top.specs.Printed.{judged_lines}
use Rattle.irl_top.proofs.printing.judged_text.Given as goal

-- the lines of those so far
abbrev pub invariant-loop-i : goal.invariant-loop-i
invariant-loop-i l = l.text.items ≡ judged_lines l.kind (take l.i l.judged)
