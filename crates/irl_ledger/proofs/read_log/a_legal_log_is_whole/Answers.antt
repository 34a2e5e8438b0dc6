use Rattle.irl_ledger.proofs.Damage.{legal_undamaged}
use Rattle.irl_ledger.proofs.read_log.a_legal_log_is_whole.Goals as goal

pub returns : goal.returns
returns g = legal_undamaged
