use Rattle.irl_core.proofs.Receipts.{stop_given, stop_empties, stop_word}
use Rattle.irl_core.proofs.laws.a_stop_leaves_a_prefix.Goals as goal

pub returns-clause-given : goal.returns-clause-given
returns-clause-given c = stop_given

pub returns-clause-empty : goal.returns-clause-empty
returns-clause-empty c = stop_empties

pub returns-clause-acknowledged : goal.returns-clause-acknowledged
returns-clause-acknowledged c = stop_word
