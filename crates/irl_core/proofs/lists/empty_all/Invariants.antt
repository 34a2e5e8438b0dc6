use Rattle.std.proofs.Common.{◌≡◌, vec_len}
use Rattle.irl_base.specs.Lists.{items_of}
use Rattle.irl_core.proofs.Arrays.{emptied_first}
use Rattle.irl_core.proofs.lists.empty_all.Given as goal

-- the lists so far are emptied
abbrev pub invariant-loop-at : goal.invariant-loop-at
invariant-loop-at l = (items_of l.lists.items ≡ emptied_first l.at (items_of l.fn.lists.items)) × (vec_len l.lists ≡ vec_len l.fn.lists)
