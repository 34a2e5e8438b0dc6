use Rattle.std.proofs.Common.{◌≡◌, ◌∷◌, length}
use Rattle.irl_pld.specs.Domains.{one_more, tails}
use Rattle.irl_pld.specs.Names.{is_listed}
use Rattle.irl_pld.proofs.suffixes.Suffixes.registered.Given as goal

-- what is left has the answer of the host
abbrev pub invariant-tails : goal.invariant-tails
invariant-tails l = one_more (is_listed l.self) l.whole (l.tail ∷ tails l.tail) ≡ one_more (is_listed l.self) l.host (tails l.host)

abbrev pub decreases-tails : goal.decreases-tails
decreases-tails l = length l.tail
