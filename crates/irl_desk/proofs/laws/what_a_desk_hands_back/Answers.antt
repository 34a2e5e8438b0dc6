use Rattle.irl_desk.proofs.Spreading.{hands_back}
use Rattle.irl_desk.proofs.laws.what_a_desk_hands_back.Goals as goal

pub returns : goal.returns
returns g c = hands_back g.S.Store.told g.met.S.Store.is_consistent
