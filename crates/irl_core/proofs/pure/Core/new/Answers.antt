use Rattle.irl_core.proofs.Effects.{new_keeps}
use Rattle.std.proofs.Common.{refl}
use Rattle.irl_core.proofs.pure.Core.new.Goals as goal

pub invariant_of-result : goal.invariant_of-result
invariant_of-result c =
    new_keeps _ c.requires (record {
      arrays = c.in_ok-arrays.ensures.lists;
      lists = c.in_ok-lists.ensures.lists;
      cuts = c.new.ensures.items;
      cut = c.in_ok-cut.ensures;
      acknowledged = c.in_ok-acknowledged.ensures;
      events = c.new-2.ensures.items;
      fates = c.in_ok-fates.ensures;
      read = refl;
    })
