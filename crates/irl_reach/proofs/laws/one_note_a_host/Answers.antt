use Rattle.irl_reach.proofs.Chains.{one_note, some_note}
use Rattle.irl_reach.proofs.laws.one_note_a_host.Goals as goal

pub returns-clause-some : goal.returns-clause-some
returns-clause-some c = some_note

pub returns-clause-one : goal.returns-clause-one
returns-clause-one c = one_note
