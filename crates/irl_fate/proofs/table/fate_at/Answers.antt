use Rattle.std.proofs.Common.{sym}
use Rattle.irl_fate.proofs.Entries.{fate_there, fate_absent}
use Rattle.irl_fate.proofs.table.fate_at.Goals as goal

pub returns-in-Ok : goal.returns-in-Ok
returns-in-Ok c = sym (fate_there _ c.requires c.args.number _ _ c.in-Ok.ensures.found)

pub returns-in-Err : goal.returns-in-Err
returns-in-Err c = sym (fate_absent c.args.entries.now c.args.number c.in-Err.ensures.absent)
