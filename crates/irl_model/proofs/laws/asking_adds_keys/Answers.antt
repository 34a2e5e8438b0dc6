use Rattle.irl_model.proofs.Adding.{keys_grow, pass_after}
use Rattle.irl_model.proofs.laws.asking_adds_keys.Goals as goal

pub returns : goal.returns
returns c = record { within = pass_after; count = keys_grow }
