use Rattle.irl_core.proofs.Later.{steps_verdicts, steps_done, steps_read}
use Rattle.irl_core.proofs.Receipts.{steps_settings, steps_front, steps_events, steps_word}
use Rattle.irl_core.proofs.laws.what_was_there_stays.Goals as goal

pub returns-clause-settings : goal.returns-clause-settings
returns-clause-settings c = steps_settings

pub returns-clause-urls : goal.returns-clause-urls
returns-clause-urls c = steps_front

pub returns-clause-events : goal.returns-clause-events
returns-clause-events c = steps_events

pub returns-clause-acknowledged : goal.returns-clause-acknowledged
returns-clause-acknowledged c = steps_word

pub returns-clause-verdicts : goal.returns-clause-verdicts
returns-clause-verdicts c = steps_verdicts

pub returns-clause-done : goal.returns-clause-done
returns-clause-done c = steps_done

pub returns-clause-read : goal.returns-clause-read
returns-clause-read c = steps_read
