use Rattle.std.proofs.Common.{ℕ, ◌<◌, ◌^◌, get_or}
use Rattle.irl_offer.specs.declared.note.Note.{Note}
use Rattle.irl_crawl.proofs.turn.moments_are_words.Given as goal

abbrev pub invariant-loop-note : goal.invariant-loop-note
invariant-loop-note l = (k : ℕ) (d : Note) → k < l.note-index → (get_or l.notes k d).when < 2 ^ 64
