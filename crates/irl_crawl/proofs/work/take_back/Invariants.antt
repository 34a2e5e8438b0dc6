use Rattle.std.proofs.Common.{◌≡◌, ◌++◌, length, map, Some, vec_capacity}
use Rattle.std.specs.Prelude.{IsSome}
use Rattle.std.specs.List.{AllByRecursion}
use Rattle.std.specs.Vec.Iter.{into_iter_items, into_iter_len}
use Rattle.irl_crawl.proofs.work.take_back.Given as goal

-- what came of the first workers is there, and the others are left
abbrev pub invariant-loop-worker : goal.invariant-loop-worker
invariant-loop-worker g l = record {
  results : map (λ r. Some r) l.results.items ++ map (λ w. w.done) (into_iter_items l.workers) ≡ map (λ w. w.done) l.fn.workers.items;
  passes : l.passes.items ++ map (λ w. w.offers.pass) (into_iter_items l.workers) ≡ map (λ w. w.offers.pass) l.fn.workers.items;
  fronts : l.fronts.items ++ map (λ w. w.front) (into_iter_items l.workers) ≡ map (λ w. w.front) l.fn.workers.items;
  over : AllByRecursion (λ w. IsSome w.done) (into_iter_items l.workers);
  long : into_iter_len l.workers ≡ length (into_iter_items l.workers);
  results_room : vec_capacity l.results ≡ vec_capacity l.fn.results;
  passes_room : vec_capacity l.passes ≡ vec_capacity l.fn.passes;
  fronts_room : vec_capacity l.fronts ≡ vec_capacity l.fn.fronts;
}

abbrev pub decreases-loop-worker : goal.decreases-loop-worker
decreases-loop-worker g l = into_iter_len l.workers
