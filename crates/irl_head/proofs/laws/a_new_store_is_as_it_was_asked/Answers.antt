use Rattle.irl_head.proofs.Asking.{new_agrees}
use Rattle.irl_head.proofs.laws.a_new_store_is_as_it_was_asked.Goals as goal

pub returns : goal.returns
returns c = new_agrees
