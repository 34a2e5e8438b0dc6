use Rattle.irl_events.proofs.Degrees.{same_degrees, linked_kept}
use Rattle.irl_events.proofs.links.first_texts_give_the_degrees.Goals as goal

pub returns-clause-alike : goal.returns-clause-alike
returns-clause-alike c = same_degrees

pub returns-clause-unique : goal.returns-clause-unique
returns-clause-unique c = linked_kept
