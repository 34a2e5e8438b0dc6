use Rattle.irl_yard.proofs.States.{one_state}
use Rattle.irl_yard.proofs.laws.one_state.Goals as goal

pub returns : goal.returns
returns c = one_state
