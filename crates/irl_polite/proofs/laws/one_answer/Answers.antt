use Rattle.irl_polite.proofs.AnswerLemmas.{one}
use Rattle.irl_polite.proofs.laws.one_answer.Goals as goal

pub returns-clause-job : goal.returns-clause-job
returns-clause-job c = λ old new other job second a b. (one old job second new other a b).0

pub returns-clause-left : goal.returns-clause-left
returns-clause-left c = λ old new other job second a b. (one old job second new other a b).1
