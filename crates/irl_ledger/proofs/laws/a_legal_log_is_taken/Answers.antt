use Rattle.irl_ledger.proofs.Broken.{legal_taken, outline_more, refused_breaks}
use Rattle.irl_ledger.proofs.laws.a_legal_log_is_taken.Goals as goal

pub returns-clause-on : goal.returns-clause-on
returns-clause-on c = outline_more

pub returns-clause-broken : goal.returns-clause-broken
returns-clause-broken c = refused_breaks

pub returns-clause-taken : goal.returns-clause-taken
returns-clause-taken c = legal_taken
