-- Nothing is closed before i.
use Rattle.std.proofs.Common.{◌≡◌, ℕ, ◌<◌, false, drop}
use Rattle.irl_scan.specs.Page.{is_raw_end}
use Rattle.irl_scan.proofs.run.closing.Given as goal

abbrev pub invariant-loop-i : goal.invariant-loop-i
invariant-loop-i l = (k : ℕ) → k < l.i → is_raw_end l.word (drop k l.bytes) ≡ false
