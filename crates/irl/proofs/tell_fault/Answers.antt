-- The line that explains is the one that is written.
use Rattle.std.proofs.Common.{inl, string_bytes}
use Rattle.std.proofs.lemmas.Result.{IfOk-at_ok}
use Rattle.irl.proofs.tell_fault.Goals as goal

pub returns-in-Ok : goal.returns-in-Ok
returns-in-Ok g c =
    (string_bytes c.in-Ok.line, inl (c.in-Some.failure, c.in-Some.is, IfOk-at_ok _ c.in-Ok.is c.fault_line.ensures), rw (← c.as_bytes-in-Ok.ensures.value) c.say-in-Ok.ensures)
