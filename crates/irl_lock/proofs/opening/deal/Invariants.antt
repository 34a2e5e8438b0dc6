use Rattle.std.proofs.Common.{◌≡◌, ◌+◌, ◌-◌, [], length, vec_capacity}
use Rattle.std.specs.List.{AllByRecursion}
use Rattle.irl_lock.specs.Books.{fresh_known}
use Rattle.irl_lock.specs.Rule.{view_of}
use Rattle.irl_lock.specs.Sharing.{IsFreshPass, opening_of, parts_in_all}
use Rattle.irl_lock.proofs.opening.deal.Given as goal

-- so many passes have one part each, and the seat has the others
abbrev pub invariant-loop-number : goal.invariant-loop-number
invariant-loop-number g l = record {
  count : length l.passes.items + 1 ≡ l.number;
  room : vec_capacity l.passes ≡ vec_capacity l.fn.passes;
  fresh : AllByRecursion (IsFreshPass l.shared) l.passes.items;
  parts : parts_in_all l.passes.items + 1 ≡ l.number;
  own : l.token.table_id ≡ l.shared.table.shared.table_id;
  seat : l.token.me ≡ (view_of (opening_of l.shared) [] (fresh_known (65 - l.number)), []);
}
