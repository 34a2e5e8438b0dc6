-- How many URLs are done, by the kind of what came of them.
use Rattle.std.specs.Prelude.{◌≡◌, ◌≢◌, ℕ, ◌<◌, nat_eq, true, List, length, slice_index}
use Rattle.std.specs.List.{filter}
use Rattle.irl_offer.specs.declared.outcome.Outcome.{Outcome}
use Rattle.irl_events.specs.Events.{Progress, has_number}
use Rattle.irl_events.specs.Legal.{are_distinct}
use Rattle.irl_fate.specs.Counting.{kind_of}
use Rattle.irl_fate.specs.Fates.{fate_of}
use Rattle.irl_fate.specs.declared.fate.Fate.TheVariants.{Fresh}

-- how many came to an outcome of this kind
abbrev pub tallied : ℕ → List (ℕ × Outcome) → ℕ
tallied kind done = length (filter (λ d. nat_eq kind (kind_of d.1)) done)

-- a number for each kind, and it is how many came to it
pub record HasTally (tally : List ℕ) (done : List (ℕ × Outcome)) : Type 0 where
  pub many : length tally ≡ 9
  pub each : (kind : ℕ) → kind < 9 → slice_index tally kind ≡ tallied kind done

-- none of these numbers stands twice, and each number that was read is one of them, as those of all URLs are
pub record HasAllRead (x : Progress) (numbers : List ℕ) : Type 0 where
  pub distinct : are_distinct numbers ≡ true
  pub read : (n : ℕ) → fate_of x n ≢ Fresh → has_number numbers n ≡ true
