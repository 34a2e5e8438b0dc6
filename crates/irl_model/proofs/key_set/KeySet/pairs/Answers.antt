use Rattle.std.proofs.Common.{◌∙◌, sym, ap}
use Rattle.std.specs.FinMap as finite
use Rattle.std.specs.Map.Iter.{deref_pair}
use Rattle.std.proofs.lemmas.Map.Iter.{iter_end}
use Rattle.irl_model.proofs.KeyMaps.{entries-from_entries}
use Rattle.irl_model.proofs.key_set.KeySet.pairs.Goals as goal

pub returns : goal.returns
returns c =
    let entries = c.self.inside.values.entries in
    let all = iter_end deref_pair entries c.loop-key.yielded _ _ _ _ c.into_iter-key-iterator.ensures.into_iter_gives.0 c.loop-key.yielded_by c.in-None.is c.next.ensures.steps in
    c.loop-key.invariant ∙ all.0 ∙ sym (entries-from_entries entries c.into_iter-key-iterator.ensures.into_iter_gives.5) ∙ ap finite.entries c.self.view_is
