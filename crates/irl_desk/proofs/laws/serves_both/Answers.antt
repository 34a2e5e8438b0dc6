use Rattle.irl_desk.proofs.Entering.{both_serve}
use Rattle.irl_desk.proofs.laws.serves_both.Goals as goal

pub returns : goal.returns
returns g c = both_serve g.S.Store.told g.met.S.Store.is_consistent
