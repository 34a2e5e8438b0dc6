use Rattle.std.proofs.Common.{◌≡◌, ◌≤◌, ◌++◌, length, drop, vec_capacity}
use Rattle.irl_layout.specs.JudgedEntries.{with_texts, texts_length}
use Rattle.irl_bay.proofs.judged_part.with_texts.Given as goal

abbrev pub invariant-loop-entry : goal.invariant-loop-entry
invariant-loop-entry l = record {
  joined : l.found.items ++ with_texts (drop l.entry-index l.entries) l.rest ≡ with_texts l.entries l.texts;
  left : length l.rest ≡ texts_length (drop l.entry-index l.entries);
  count : length l.found.items ≡ l.entry-index;
  room : length l.entries ≤ vec_capacity l.found;
}
