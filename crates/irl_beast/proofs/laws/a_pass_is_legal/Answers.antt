use Rattle.irl_beast.proofs.LegalPasses.{place_numbers, place_within, place_read, pass_legal, pass_waiting}
use Rattle.irl_beast.proofs.laws.a_pass_is_legal.Goals as goal

pub returns-clause-numbers : goal.returns-clause-numbers
returns-clause-numbers c = place_numbers

pub returns-clause-slots : goal.returns-clause-slots
returns-clause-slots c = place_within

pub returns-clause-read : goal.returns-clause-read
returns-clause-read c = place_read

pub returns-clause-legal : goal.returns-clause-legal
returns-clause-legal c = pass_legal

pub returns-clause-waiting : goal.returns-clause-waiting
returns-clause-waiting c = pass_waiting
