use Rattle.std.specs.List.{AllByRecursion}
use Rattle.irl_log.specs.Form.{IsNote}
use Rattle.irl_store_tests.proofs.calls.noting.all_free.Given as goal

abbrev pub invariant-loop-host : goal.invariant-loop-host
invariant-loop-host l = AllByRecursion IsNote l.notes.items
