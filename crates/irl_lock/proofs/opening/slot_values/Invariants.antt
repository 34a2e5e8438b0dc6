use Rattle.std.proofs.Common.{◌≡◌, ◌<◌, ◌+◌, ℕ, drop, length, vec_capacity, Some}
use mathlib.Core.Option.{some}
use lib.ListN.{get_elem?}
use Rattle.std.specs.Vec.Iter.{into_iter_items, into_iter_len}
use Rattle.irl_lock.specs.Books.{bin_of}
use Rattle.irl_lock.specs.Laying.{AreBins, first_stand}
use Rattle.irl_lock.specs.declared.held.Held.TheVariants.{InBin}
use Rattle.irl_lock.proofs.opening.slot_values.Given as goal

-- the bins of so many buckets, and the arrays of the others are left
abbrev pub invariant-loop-b : goal.invariant-loop-b
invariant-loop-b g l = record {
  count : length l.slots.items ≡ l.b;
  room : vec_capacity l.slots ≡ vec_capacity l.fn.slots;
  left : into_iter_items l.left ≡ drop l.b l.fn.arrays.items;
  long : into_iter_len l.left + l.b ≡ length l.fn.arrays.items;
  are : AreBins l.slots.items;
  bins : (b : ℕ) → b < l.b → get_elem? l.slots.items b ≡ some (Some (InBin (bin_of (first_stand l.yard) l.fn.arrays.items b)));
}
