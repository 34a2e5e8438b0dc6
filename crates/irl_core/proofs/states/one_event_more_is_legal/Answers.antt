use Rattle.irl_core.proofs.StateLemmas.{legal-more}
use Rattle.irl_core.proofs.states.one_event_more_is_legal.Goals as goal

pub returns : goal.returns
returns c = λ domain key settings urls pairs events event places. legal-more domain key settings urls pairs events event places
