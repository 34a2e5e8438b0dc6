use Rattle.std.proofs.Common.{◌≡◌, [], vec_len}
use Rattle.std.specs.Prelude.{replicate}
use Rattle.irl_base.specs.Lists.{items_of}
use Rattle.irl_base.proofs.lists.empty_lists.Given as goal

-- so many lists, all empty
abbrev pub invariant-loop : goal.invariant-loop
invariant-loop g l = (items_of l.lists.items ≡ replicate l.counter []) × (vec_len l.lists ≡ l.counter)
