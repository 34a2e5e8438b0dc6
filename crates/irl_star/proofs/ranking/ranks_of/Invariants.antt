use Rattle.std.proofs.Common.{map}
use Rattle.irl_star.specs.Ranks.{domain_of, AreRanks}
use Rattle.irl_star.proofs.ranking.ranks_of.Given as goal

-- the map has the ranks so far
abbrev pub invariant-loop-rank : goal.invariant-loop-rank
invariant-loop-rank l = AreRanks (map domain_of l.ranked) l.rank l.rank_of
