use Rattle.std.specs.List.{AllZip}
use Rattle.irl_polite.specs.Inside.{place_of, Grows, IsEntered}
use Rattle.irl_polite.proofs.slots.slots_of.Given as goal

-- the items so far are entered with their hosts
abbrev pub invariant-loop-work : goal.invariant-loop-work
invariant-loop-work l = record {
  grown : Grows (place_of l.fn.names.entries) l.fn.hosts.items (place_of l.names.entries) l.hosts.items;
  entered : AllZip (IsEntered (place_of l.names.entries)) l.yielded l.slots.items;
}
