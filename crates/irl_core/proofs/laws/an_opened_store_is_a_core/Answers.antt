use Rattle.irl_core.proofs.Opened.{opened_kept}
use Rattle.irl_core.proofs.laws.an_opened_store_is_a_core.Goals as goal

pub returns : goal.returns
returns c = opened_kept
