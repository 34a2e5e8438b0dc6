use Rattle.irl_core.proofs.Receipts.{refused_same}
use Rattle.irl_core.proofs.laws.a_refused_step_changes_nothing.Goals as goal

pub returns : goal.returns
returns c = refused_same
