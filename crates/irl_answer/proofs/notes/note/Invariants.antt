-- What is left of the chain comes to what the whole does.
use Rattle.std.proofs.Common.{◌≡◌, ◌≤◌, length}
use Rattle.irl_answer.specs.Notes.{note_of, note_from}
use Rattle.irl_answer.proofs.notes.note.Given as goal

abbrev pub invariant-loop-answer : goal.invariant-loop-answer
invariant-loop-answer l = record {
  same : note_of l.fn.host l.fn.answers ≡ note_from l.asked l.followed l.rest;
  few : l.followed ≤ 5;
}

abbrev pub decreases-loop-answer : goal.decreases-loop-answer
decreases-loop-answer l = length l.rest
