use Rattle.std.proofs.Common.{◌≡◌, ◌≤◌, take, vec_len}
use Rattle.irl_fate.specs.Kept.{front_left}
use Rattle.irl_fate.proofs.order.first_of.Given as goal

-- those so far that are in the front
abbrev pub invariant-loop-number : goal.invariant-loop-number
invariant-loop-number l = record {
  first : l.first.items ≡ front_left l.entries (take l.number-index l.order);
  most : vec_len l.first ≤ l.most;
}
