use Rattle.std.proofs.Common.{◌≡◌, ◌++◌, ℕ, List, take, vec_len}
use Rattle.irl_beast.specs.Counts.{count_in}
use Rattle.irl_base.specs.Lists.{items_of}
use Rattle.irl_events.specs.Queues.{delivered, empty_lists}
use Rattle.irl_beast.specs.Places.{count_of, place}
use Rattle.irl_beast.proofs.placing.placed.Given as goal

-- the items so far are counted and in their places
abbrev pub invariant-loop-i : goal.invariant-loop-i
invariant-loop-i g l =
    let read = take l.i (l.queue ++ l.fresh) in
    let budget = g.B.Purse.budgets l.purse in
    record {
      counts : (q : List ℕ) → count_in l.counts.entries q ≡ count_of read q;
      places : l.places.items ≡ place l.passes l.queues budget read;
      more : items_of l.more.items ≡ delivered empty_lists read (place l.passes l.queues budget read);
      len : vec_len l.more ≡ 65;
    }
