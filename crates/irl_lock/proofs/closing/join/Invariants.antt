use Rattle.std.proofs.Common.{◌≡◌, ◌+◌, ◌++◌, [], length, map}
use Rattle.std.specs.List.{AllByRecursion}
use Rattle.std.specs.Vec.Iter.{into_iter_items, into_iter_len}
use Rattle.irl_lock.specs.Books.{all_parts, shares_of}
use Rattle.irl_lock.specs.Seats.{IsOn}
use Rattle.irl_lock.specs.Sharing.{IsFree, IsOf, mine_of, opening_of, parts_in_all}
use Rattle.irl_lock.proofs.closing.join.Given as goal

-- the seat has taken in all but those that are left
abbrev pub invariant-loop-pass : goal.invariant-loop-pass
invariant-loop-pass g l = record {
  own : IsOn l.shared.table.shared.table_id (opening_of l.shared) l.token.table_id l.token.me.0;
  turns : l.token.me.0.turns ≡ [];
  slots : l.token.me.1 ≡ [];
  parts : l.token.me.0.known.parts + parts_in_all (into_iter_items l.left) ≡ all_parts;
  shares : shares_of l.token.me.0.known ++ map mine_of (into_iter_items l.left) ≡ map mine_of l.fn.passes.items;
  long : into_iter_len l.left ≡ length (into_iter_items l.left);
  owns : AllByRecursion (IsOf l.shared) (into_iter_items l.left);
  frees : AllByRecursion IsFree (into_iter_items l.left);
}

abbrev pub decreases-loop-pass : goal.decreases-loop-pass
decreases-loop-pass g l = into_iter_len l.left
