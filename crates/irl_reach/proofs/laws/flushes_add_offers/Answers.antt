use Rattle.irl_reach.proofs.Turns.{added_flushed, added_same}
use Rattle.irl_reach.proofs.laws.flushes_add_offers.Goals as goal

pub returns-clause-none : goal.returns-clause-none
returns-clause-none c = added_same

pub returns-clause-more : goal.returns-clause-more
returns-clause-more c = added_flushed
