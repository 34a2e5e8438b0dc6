use Rattle.irl_fetch.proofs.Notes.{host_some, host_short, text_short}
use Rattle.irl_fetch.proofs.laws.notes_are_short.Goals as goal

pub returns-clause-host : goal.returns-clause-host
returns-clause-host c = host_some

pub returns-clause-short : goal.returns-clause-short
returns-clause-short c = host_short

pub returns-clause-text : goal.returns-clause-text
returns-clause-text c = text_short
