use Rattle.std.proofs.Common.{◌≡◌, length}
use Rattle.std.specs.Vec.Iter.{into_iter_items, into_iter_len}
use Rattle.irl_crawl.proofs.AllWork.{HaveJoined}
use Rattle.irl_crawl.proofs.work.join_all.Given as goal

abbrev pub invariant-loop-result : goal.invariant-loop-result
invariant-loop-result l = record {
  joined : HaveJoined l.whole (into_iter_items l.results) l.fn.results.items;
  long : into_iter_len l.results ≡ length (into_iter_items l.results);
}

abbrev pub decreases-loop-result : goal.decreases-loop-result
decreases-loop-result l = into_iter_len l.results
