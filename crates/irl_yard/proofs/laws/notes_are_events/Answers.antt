use Rattle.irl_yard.proofs.NotesAdded.{notes_front, notes_more, notes_none}
use Rattle.irl_yard.proofs.laws.notes_are_events.Goals as goal

pub returns-clause-none : goal.returns-clause-none
returns-clause-none c = notes_none

pub returns-clause-more : goal.returns-clause-more
returns-clause-more c = notes_more

pub returns-clause-front : goal.returns-clause-front
returns-clause-front c = notes_front
