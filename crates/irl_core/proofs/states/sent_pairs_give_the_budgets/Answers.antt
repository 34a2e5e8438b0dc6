use Rattle.irl_core.proofs.SentPairs.{sent_degrees, sent_budgets}
use Rattle.irl_core.proofs.states.sent_pairs_give_the_budgets.Goals as goal

pub returns-clause-degrees : goal.returns-clause-degrees
returns-clause-degrees c = sent_degrees

pub returns-clause-budgets : goal.returns-clause-budgets
returns-clause-budgets c = λ links urls pairs cuts judged sent are settings domain. sent_budgets links urls pairs cuts judged sent are settings domain
