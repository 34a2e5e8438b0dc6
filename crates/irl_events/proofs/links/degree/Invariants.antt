use Rattle.std.proofs.Common.{◌≡◌, ◌≤◌, take}
use Rattle.irl_events.specs.Links.{degree as degree_of}
use Rattle.irl_events.proofs.links.degree.Given as goal

-- the degree by the pairs so far
abbrev pub invariant-loop-place : goal.invariant-loop-place
invariant-loop-place l = record { degree : l.count ≡ degree_of (take l.place l.pairs) l.domain; few : l.count ≤ l.place }
