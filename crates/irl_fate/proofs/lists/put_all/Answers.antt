use Rattle.std.proofs.Common.{[], sym}
use Rattle.irl_base.specs.Lists.{items_of}
use Rattle.irl_events.proofs.QueueLemmas.{delivered-none}
use Rattle.irl_events.proofs.Placing.{deliver_step}
use Rattle.irl_fate.proofs.lists.put_all.Goals as goal

pub loop-place-init : goal.loop-place-init
loop-place-init c = record { lists = sym (delivered-none (items_of c.args.lists.now.items) []); len = c.requires.len }

pub loop-place-preserved : goal.loop-place-preserved
loop-place-preserved c =
    let old = items_of c.args.lists.now.items in
    record {
      lists = deliver_step old _ _ c.args.places.now c.loop-place.place-index _ c.loop-place-test.true c.loop-place.invariant.lists c.in_ok-put.ensures.ok;
      len = c.put.ensures.len;
    }
