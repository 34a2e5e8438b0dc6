use Rattle.std.proofs.Common.{◌≡◌, map, take}
use Rattle.irl_merge.specs.Queries.{bare_entry, numbered}
use Rattle.irl_merge.proofs.query.sorted.Given as goal

-- the entries so far are there
abbrev pub invariant-loop-place : goal.invariant-loop-place
invariant-loop-place l = l.queries.items ≡ numbered 0 (map bare_entry (take l.place l.entries))
