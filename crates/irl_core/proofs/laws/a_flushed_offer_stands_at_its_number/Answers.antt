use Rattle.irl_core.proofs.Receipts.{flushed_stands, flushed_below, stopped_stands}
use Rattle.irl_core.proofs.laws.a_flushed_offer_stands_at_its_number.Goals as goal

pub returns-clause-number : goal.returns-clause-number
returns-clause-number c = flushed_stands

pub returns-clause-acknowledged : goal.returns-clause-acknowledged
returns-clause-acknowledged c = flushed_below

pub returns-clause-stopped : goal.returns-clause-stopped
returns-clause-stopped c = stopped_stands
