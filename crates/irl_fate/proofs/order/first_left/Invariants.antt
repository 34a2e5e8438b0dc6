use Rattle.std.proofs.Common.{◌≡◌, ◌-◌, ◌<◌, ◌≤◌, ℕ, false, get_or, length}
use Rattle.irl_fate.specs.Kept.{fate_in, is_front}
use Rattle.irl_fate.proofs.order.first_left.Given as goal

-- none so far is in the front
abbrev pub invariant-loop-next : goal.invariant-loop-next
invariant-loop-next l = record {
  within : l.next ≤ length l.order;
  passed : (i : ℕ) → i < l.next → is_front (fate_in l.entries (get_or l.order i 0)) ≡ false;
}

abbrev pub decreases-loop-next : goal.decreases-loop-next
decreases-loop-next l = length l.order - l.next
