use Rattle.irl_log.proofs.OneEvent.{one_event}
use Rattle.irl_log.proofs.OneLog.{one_log}
use Rattle.irl_log.proofs.laws.one_list_of_events.Goals as goal

pub returns-clause-event : goal.returns-clause-event
returns-clause-event c = one_event

pub returns-clause-list : goal.returns-clause-list
returns-clause-list c = one_log
