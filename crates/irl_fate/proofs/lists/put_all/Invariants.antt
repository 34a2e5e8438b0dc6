use Rattle.std.proofs.Common.{◌≡◌, take, vec_len}
use Rattle.irl_base.specs.Lists.{items_of}
use Rattle.irl_events.specs.Events.{numbers_of}
use Rattle.irl_events.specs.Queues.{delivered}
use Rattle.irl_fate.proofs.lists.put_all.Given as goal

-- the numbers so far are in their places
abbrev pub invariant-loop-place : goal.invariant-loop-place
invariant-loop-place l =
    let places = take l.place-index l.places in
    record {
      lists : items_of l.lists.items ≡ delivered (items_of l.fn.lists.items) (numbers_of places) places;
      len : vec_len l.lists ≡ 65;
    }
