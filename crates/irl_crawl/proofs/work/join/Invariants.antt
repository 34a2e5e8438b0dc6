use Rattle.std.proofs.Common.{◌≡◌, ◌++◌}
use Rattle.irl_crawl.proofs.work.join.Given as goal

abbrev pub invariant-loop-one : goal.invariant-loop-one
invariant-loop-one l = record {
  done : l.whole.done.items ≡ l.fn.whole.done.items ++ l.yielded;
  notes : l.whole.notes.items ≡ l.fn.whole.notes.items;
}

abbrev pub invariant-loop-note : goal.invariant-loop-note
invariant-loop-note l = record {
  done : l.whole.done.items ≡ l.fn.whole.done.items ++ l.fn.part.done.items;
  notes : l.whole.notes.items ≡ l.fn.whole.notes.items ++ l.yielded;
}
