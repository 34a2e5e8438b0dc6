use Rattle.std.proofs.Common.{◌+◌, ◌*◌, suc, length}
use Rattle.irl_robots.proofs.SearchLemmas.{IsSearch, tries}
use Rattle.irl_robots.proofs.matching.search.Given as goal

abbrev pub invariant-loop-next : goal.invariant-loop-next
invariant-loop-next l = IsSearch l.fn.start l.place l.retry

abbrev pub decreases-loop-next : goal.decreases-loop-next
decreases-loop-next l = tries l.retry l.place * suc (length l.fn.start.pattern.now) + length l.place.pattern.now
