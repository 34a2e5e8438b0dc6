-- the entries so far have what the rest lacks
use Rattle.std.proofs.Common.{◌≡◌, ◌+◌, take}
use Rattle.irl_layout.specs.EntryRuns.{text_length}
use Rattle.irl_bay.proofs.gathering.have_length.Given as goal

abbrev pub invariant-loop-entry : goal.invariant-loop-entry
invariant-loop-entry l = l.rest + text_length (take l.entry-index l.entries) ≡ l.length
