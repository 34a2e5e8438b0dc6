use Rattle.irl_polite.specs.Schedule.{empty_of}
use Rattle.irl_polite.proofs.HistoryLemmas.{once, apart, all_held, noted}
use Rattle.irl_polite.proofs.laws.politeness.Goals as goal

pub returns-clause-apart : goal.returns-clause-apart
returns-clause-apart c = λ delay agent steps end runs. apart (empty_of delay agent) steps end runs

pub returns-clause-once : goal.returns-clause-once
returns-clause-once c = λ delay agent steps end runs. once (empty_of delay agent) steps end runs

pub returns-clause-held : goal.returns-clause-held
returns-clause-held c = λ delay agent steps end name runs. all_held delay agent steps end runs name

pub returns-clause-noted : goal.returns-clause-noted
returns-clause-noted c = λ delay agent before behind now job end runs. noted delay agent before behind now job end runs
