use Rattle.std.proofs.Common.{◌≡◌, ◌+◌, ◌*◌, ◌/◌, ◌^◌, ◌<◌, ◌≤◌, length, take, drop, None, vec_capacity}
use Rattle.std.specs.Prelude.{IfSome}
use Rattle.std.specs.List.{flat_map}
use Rattle.irl_layout.specs.JudgedEntries.{entry_spelling}
use Rattle.irl_bay.specs.JudgedSpoilt.{FitEach, StandsBefore}
use Rattle.irl_bay.proofs.JudgedReading.{last_of}
use Rattle.irl_bay.proofs.bay.Bay.decode_entries.Given as goal

abbrev pub invariant-loop-one : goal.invariant-loop-one
invariant-loop-one l = record {
  rest : l.rest ≡ drop (48 * length l.entries.items) l.bytes;
  left : 48 * length l.entries.items + length l.rest ≡ length l.bytes;
  bytes : flat_map entry_spelling l.entries.items ≡ take (48 * length l.entries.items) l.bytes;
  fit : FitEach l.self None l.entries.items;
  before : l.before ≡ last_of None l.entries.items;
  low : IfSome l.before (λ one. one.place + one.aux_len < 2 ^ 64);
  stands : IfSome l.before (StandsBefore l.bytes (length l.entries.items));
  room : length l.bytes / 48 ≤ vec_capacity l.entries;
}

abbrev pub decreases-loop-one : goal.decreases-loop-one
decreases-loop-one l = length l.rest
