use Rattle.std.proofs.Common.{◌≤◌}
use Rattle.std.specs.BinaryHeap.{heap_items, heap_capacity, IsHeap}
use Rattle.irl_polite.specs.Inside.{turn_cmp}
use Rattle.irl_polite.proofs.BeginLemmas.{AreBegun}
use Rattle.irl_polite.proofs.turns.begin.Given as goal

-- the turns of the items so far are put in
abbrev pub invariant-loop-at : goal.invariant-loop-at
invariant-loop-at l = record {
  begun : AreBegun l.hosts (heap_items l.turns) l.at;
  heap : IsHeap turn_cmp (heap_items l.turns);
  room : heap_capacity l.fn.turns ≤ heap_capacity l.turns;
}
