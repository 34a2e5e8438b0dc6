use Rattle.std.proofs.Common.{◌≡◌, ℕ}
use Rattle.irl_disk.specs.Calls.{IsPart, files_of, states_at}
use Rattle.irl_disk.proofs.log.Log.image.Given as goal

abbrev pub invariant-loop-entry : goal.invariant-loop-entry
invariant-loop-entry l = record {
  shown : (f : ℕ) → IsPart l.part (states_at l.entry-index l.self f) (files_of l.shown f);
  now : (f : ℕ) → files_of l.now f ≡ (states_at l.entry-index l.self f).now;
}
