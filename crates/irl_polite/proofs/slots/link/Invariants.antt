use Rattle.std.proofs.Common.{◌≡◌, ◌≤◌, length, map}
use Rattle.irl_polite.specs.Inside.{AreFirsts, AreNexts, bare_host, bare_slot}
use Rattle.irl_polite.proofs.slots.link.Given as goal

-- the items from there on are linked
abbrev pub invariant-loop-at : goal.invariant-loop-at
invariant-loop-at l = record {
  within : l.at ≤ length l.slots.items;
  hosts : map bare_host l.hosts.items ≡ map bare_host l.fn.hosts.items;
  slots : map bare_slot l.slots.items ≡ map bare_slot l.fn.slots.items;
  firsts : AreFirsts l.hosts.items l.slots.items l.at;
  nexts : AreNexts l.slots.items l.at;
}

abbrev pub decreases-loop-at : goal.decreases-loop-at
decreases-loop-at l = l.at
