use Rattle.std.proofs.Common.{◌≡◌, take, vec_len}
use Rattle.irl_base.specs.Lists.{items_of}
use Rattle.irl_fate.proofs.lists.copies.Given as goal

-- the lists so far are copied
abbrev pub invariant-loop-list : goal.invariant-loop-list
invariant-loop-list l = record {
  lists : items_of l.copy.items ≡ items_of (take l.list-index l.lists);
  len : vec_len l.copy ≡ l.list-index;
}
