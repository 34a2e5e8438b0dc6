use Rattle.irl_lock.proofs.Spreading.{handed_back}
use Rattle.irl_lock.proofs.laws.what_passes_hand_back.Goals as goal

pub returns : goal.returns
returns g c = handed_back g.met.S.Store.is_consistent
