use Rattle.irl_bay.proofs.Apart.{unmade_stands}
use Rattle.irl_bay.proofs.laws.a_blank_bay_stands.Goals as goal

pub returns : goal.returns
returns c = unmade_stands
