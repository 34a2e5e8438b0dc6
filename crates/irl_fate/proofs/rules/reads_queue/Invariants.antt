use Rattle.std.proofs.Common.{◌≡◌, drop}
use Rattle.irl_events.specs.Events.{numbers_of}
use Rattle.irl_events.specs.Legal.{are_read}
use Rattle.irl_fate.proofs.rules.reads_queue.Given as goal

-- all is read where the rest is
abbrev pub invariant-loop-i : goal.invariant-loop-i
invariant-loop-i l =
    are_read l.queue l.from l.to (numbers_of l.places) ≡ are_read (drop l.i l.queue) l.from l.to (numbers_of (drop l.i l.places))
