use Rattle.irl_journal.proofs.Lists.{one_list, whole_list, record_behind}
use Rattle.irl_journal.proofs.laws.one_list.Goals as goal

pub returns-clause-one : goal.returns-clause-one
returns-clause-one c = one_list

pub returns-clause-whole : goal.returns-clause-whole
returns-clause-whole c = whole_list

pub returns-clause-behind : goal.returns-clause-behind
returns-clause-behind c = record_behind
