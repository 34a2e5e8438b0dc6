use Rattle.std.proofs.Common.{refl, Some}
use Rattle.irl_yard.proofs.Entering.{enters_keeps, enters_records}
use Rattle.irl_yard.proofs.enter.what_entering_keeps.Goals as goal

pub returns-clause-state : goal.returns-clause-state
returns-clause-state g = λ asked told old new state has_told has enters. enters_keeps asked (Some told) told state old new refl has_told has enters

pub returns-clause-records : goal.returns-clause-records
returns-clause-records g = λ asked told old new state buckets b payloads has_told has enters within journal.
    enters_records asked (Some told) told state old new buckets b payloads refl has_told has enters within journal
