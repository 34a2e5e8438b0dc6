use Rattle.std.proofs.Common.{◌≡◌, length}
use Rattle.irl_pld.specs.Domains.{last_of, tails}
use Rattle.irl_pld.proofs.hosts.last_label.Given as goal

-- the last label of what is left is that of the host
abbrev pub invariant-labels : goal.invariant-labels
invariant-labels l = last_of l.label (tails l.label) ≡ last_of l.host (tails l.host)

abbrev pub decreases-labels : goal.decreases-labels
decreases-labels l = length l.label
