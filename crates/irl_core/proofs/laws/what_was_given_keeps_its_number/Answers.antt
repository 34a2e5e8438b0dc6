use Rattle.irl_core.proofs.Receipts.{offer_receipt, given_step, stands_step, offer_others, flush_others}
use Rattle.irl_core.proofs.laws.what_was_given_keeps_its_number.Goals as goal

pub returns-clause-receipt : goal.returns-clause-receipt
returns-clause-receipt c = offer_receipt

pub returns-clause-step : goal.returns-clause-step
returns-clause-step c = λ x s b number offer is none at. given_step x s b number offer is none at

pub returns-clause-list : goal.returns-clause-list
returns-clause-list c = stands_step

pub returns-clause-others : goal.returns-clause-others
returns-clause-others c = λ x b c offer other. (offer_others x b c offer other, flush_others x b c other)
