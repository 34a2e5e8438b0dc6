use Rattle.std.proofs.Common.{◌≡◌, ◌≤◌, ◌<◌, ◌+◌, ◌^◌, ℕ, length, slice_index, vec_capacity}
use Rattle.irl_bay.specs.Drum.{durable_at}
use Rattle.irl_lock.specs.Books.{buckets_of, count_word}
use Rattle.irl_lock.proofs.opening.word_values.Given as goal

-- so many words, each of them 0
abbrev pub invariant-loop : goal.invariant-loop
invariant-loop g l = record {
  count : length l.words.items ≡ l.counter;
  room : vec_capacity l.words ≡ vec_capacity l.fn.words;
  turns : (t : ℕ) → t < l.counter → slice_index l.words.items t ≡ 0;
}

-- and behind those of the turns the counts of so many buckets
abbrev pub invariant-loop-b : goal.invariant-loop-b
invariant-loop-b g l = record {
  count : length l.words.items ≡ (buckets_of l.yard + 1) + l.b;
  room : vec_capacity l.words ≡ vec_capacity l.fn.words;
  turns : (t : ℕ) → t ≤ buckets_of l.yard → slice_index l.words.items t ≡ 0;
  counts : (b : ℕ) → b < l.b → slice_index l.words.items (count_word l.yard b) ≡ durable_at l.yard.parts.urls b;
  fit : (b : ℕ) → b < l.b → durable_at l.yard.parts.urls b < 2 ^ 64;
}
