use Rattle.std.proofs.Common.{◌≡◌, ◌++◌, length, map, vec_capacity}
use Rattle.std.specs.List.{AllByRecursion}
use Rattle.std.specs.Vec.Iter.{into_iter_items, into_iter_len}
use Rattle.irl_lock.specs.Sharing.{IsFreshPass}
use Rattle.irl_crawl.proofs.work.seat_all.Given as goal

-- the first passes and fronts are those of workers, and the others are left
abbrev pub invariant-loop-pass : goal.invariant-loop-pass
invariant-loop-pass g l = record {
  passes : map (λ w. w.offers.pass) l.workers.items ++ into_iter_items l.passes ≡ l.fn.passes.items;
  fronts : map (λ w. w.front) l.workers.items ++ into_iter_items l.fronts ≡ l.fn.fronts.items;
  shared : AllByRecursion (λ w. w.offers.shared.now ≡ l.shared) l.workers.items;
  fresh : AllByRecursion (IsFreshPass l.shared) (into_iter_items l.passes);
  passes_long : into_iter_len l.passes ≡ length (into_iter_items l.passes);
  fronts_long : into_iter_len l.fronts ≡ length (into_iter_items l.fronts);
  same : length (into_iter_items l.fronts) ≡ length (into_iter_items l.passes);
  room : vec_capacity l.workers ≡ vec_capacity l.fn.workers;
}

abbrev pub decreases-loop-pass : goal.decreases-loop-pass
decreases-loop-pass g l = into_iter_len l.passes
