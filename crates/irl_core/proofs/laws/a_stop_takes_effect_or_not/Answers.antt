use Rattle.irl_core.proofs.Receipts.{flush_effect, merge_effect, settle_effect, no_effect}
use Rattle.irl_core.proofs.laws.a_stop_takes_effect_or_not.Goals as goal

pub returns-clause-flush : goal.returns-clause-flush
returns-clause-flush c = flush_effect

pub returns-clause-merge : goal.returns-clause-merge
returns-clause-merge c = merge_effect

pub returns-clause-settle : goal.returns-clause-settle
returns-clause-settle c = settle_effect

pub returns-clause-none : goal.returns-clause-none
returns-clause-none c = no_effect
