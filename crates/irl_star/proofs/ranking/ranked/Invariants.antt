use Rattle.std.proofs.Common.{◌≡◌, map}
use Rattle.std.specs.Map.Iter.{deref_pair}
use Rattle.irl_star.specs.Degrees.{texts_of}
use Rattle.irl_star.specs.Ranks.{domain_of}
use Rattle.irl_star.proofs.ranking.ranked.Given as goal

-- the domains so far, with their degrees
abbrev pub invariant-loop-pld : goal.invariant-loop-pld
invariant-loop-pld l = map domain_of l.ranked.items ≡ texts_of (map deref_pair l.yielded)
