use Rattle.irl_lock.proofs.Spreading.{passes_are_spread}
use Rattle.irl_lock.proofs.laws.passes_spread.Goals as goal

pub returns : goal.returns
returns g c = passes_are_spread g.met.S.Store.is_consistent
