use Rattle.std.proofs.Common.{◌≡◌, ◌<◌, ◌≤◌, ℕ, length, vec_capacity, true, false, get_or}
use Rattle.std.specs.Slots.{slots_items, slots_filled, slots_len}
use Rattle.irl_lock.proofs.Leaving.{AreTaken}
use Rattle.irl_lock.proofs.closing.take_out.Given as goal

-- the slots of so many buckets are empty, and their arrays are here
abbrev pub invariant-loop-b : goal.invariant-loop-b
invariant-loop-b g l = record {
  items : slots_items l.closed.slots ≡ slots_items l.initial.closed.slots;
  long : slots_len l.closed.slots ≡ slots_len l.initial.closed.slots;
  full : (k : ℕ) → l.b ≤ k → k < slots_len l.closed.slots → get_or (slots_filled l.closed.slots) k false ≡ true;
  empty : (k : ℕ) → k < l.b → get_or (slots_filled l.closed.slots) k false ≡ false;
  count : length l.arrays.items ≡ l.b;
  room : vec_capacity l.arrays ≡ vec_capacity l.initial.arrays;
  taken : AreTaken (slots_items l.initial.closed.slots) l.arrays.items;
}
