use Rattle.std.specs.List.{AllZip}
use Rattle.irl_polite.specs.Inside.{place_of, Grows, IsRead}
use Rattle.irl_polite.proofs.hosts.read_all.Given as goal

-- the notes so far are read
abbrev pub invariant-loop-note : goal.invariant-loop-note
invariant-loop-note l = record {
  grown : Grows (place_of l.fn.names.entries) l.fn.hosts.items (place_of l.names.entries) l.hosts.items;
  read : AllZip (IsRead (place_of l.names.entries) l.agent) l.yielded l.read.items;
}
