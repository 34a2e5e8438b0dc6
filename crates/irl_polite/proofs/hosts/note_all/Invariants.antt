use Rattle.irl_polite.specs.Inside.{Noted}
use Rattle.irl_polite.proofs.hosts.note_all.Given as goal

-- those so far are noted
abbrev pub invariant-loop-place : goal.invariant-loop-place
invariant-loop-place l = Noted l.fn.hosts.items l.yielded l.hosts.items
