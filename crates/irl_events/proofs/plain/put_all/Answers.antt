use Rattle.std.proofs.Common.{◌∙◌, [], refl, sym}
use Rattle.irl_base.specs.Lists.{items_of}
use Rattle.irl_events.proofs.Placing.{deliver_step}
use Rattle.irl_events.proofs.QueueLemmas.{delivered-none}
use Rattle.irl_events.proofs.plain.put_all.Goals as goal

pub loop-place-init : goal.loop-place-init
loop-place-init c = record { lists = sym (delivered-none (items_of c.args.lists.now.items) []); len = refl }

pub loop-place-preserved : goal.loop-place-preserved
loop-place-preserved c = record {
  lists = deliver_step (items_of c.args.lists.now.items) _ _ c.args.places.now c.loop-place.place-index _ c.loop-place-test.true c.loop-place.invariant.lists c.in_ok-put.ensures.ok;
  len = c.put.ensures.len ∙ c.loop-place.invariant.len;
}
