use Rattle.irl_fate.proofs.Entries.{fate_written, numbers_written}
use Rattle.irl_fate.proofs.table.relabel.Goals as goal

pub returns-in-Ok-clause-fate : goal.returns-in-Ok-clause-fate
returns-in-Ok-clause-fate c = fate_written c.args.entries.now c.requires.sorted c.args.number c.in-Ok.at c.args.fate c.in-Ok.ensures.found

pub returns-in-Ok-clause-numbers : goal.returns-in-Ok-clause-numbers
returns-in-Ok-clause-numbers c = numbers_written c.args.entries.now c.requires.sorted c.args.number c.in-Ok.at c.args.fate c.in-Ok.ensures.found
