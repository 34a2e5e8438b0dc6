use Rattle.std.proofs.Common.{map}
use Rattle.irl_events.specs.Seen.{seen}
use Rattle.irl_log.specs.Log.{AreLogged}
use Rattle.irl_store_tests.proofs.log.passes.Given as goal

abbrev pub invariant-loop-judged : goal.invariant-loop-judged
invariant-loop-judged l = AreLogged 2 (map seen l.events.items)
