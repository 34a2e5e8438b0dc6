use Rattle.std.proofs.Common.{◌≡◌, map, take}
use Rattle.irl_events.specs.Events.{Robots}
use Rattle.irl_events.specs.Seen.{seen}
use Rattle.irl_ledger.proofs.events.robots_events.Given as goal

abbrev pub invariant-loop-note : goal.invariant-loop-note
invariant-loop-note l = map seen l.events.items ≡ map Robots (take l.note-index l.notes)
