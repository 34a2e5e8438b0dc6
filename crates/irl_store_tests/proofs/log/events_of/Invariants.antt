use Rattle.std.proofs.Common.{map}
use Rattle.irl_events.specs.Seen.{seen}
use Rattle.irl_log.specs.Log.{AreLogged}
use Rattle.irl_store_tests.proofs.log.events_of.Given as goal

abbrev pub invariant-loop-payload : goal.invariant-loop-payload
invariant-loop-payload l = AreLogged 2 (map seen l.events.items)
