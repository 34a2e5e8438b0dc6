use Rattle.irl_core.proofs.Keeping.{core_kept}
use Rattle.irl_core.proofs.laws.what_is_acknowledged_is_there.Goals as goal

pub returns : goal.returns
returns c = λ settings steps valid. (core_kept settings steps valid).acknowledged
