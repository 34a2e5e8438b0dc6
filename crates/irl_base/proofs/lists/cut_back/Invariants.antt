use Rattle.std.proofs.Common.{◌≡◌, vec_len}
use Rattle.irl_base.specs.Lists.{items_of}
use Rattle.irl_base.proofs.ListLemmas.{CutBelow}
use Rattle.irl_base.proofs.lists.cut_back.Given as goal

-- the lists so far are cut
abbrev pub invariant-loop-at : goal.invariant-loop-at
invariant-loop-at g l = CutBelow l.lengths (items_of l.fn.lists.items) (items_of l.lists.items) l.at × (vec_len l.lists ≡ vec_len l.fn.lists)
