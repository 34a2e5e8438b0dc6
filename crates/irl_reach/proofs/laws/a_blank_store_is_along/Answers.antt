use Rattle.irl_reach.proofs.Staying.{blank_along}
use Rattle.irl_reach.proofs.laws.a_blank_store_is_along.Goals as goal

pub returns : goal.returns
returns c = blank_along
