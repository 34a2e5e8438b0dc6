-- Arrays in front of the buckets of a bay.
use Rattle.std.specs.Prelude.{◌≡◌, ℕ, ◌<◌, ◌≤◌, List, [], length, slice_index_or}
use Rattle.irl_offer.specs.Tuple.{Tuple}
use Rattle.irl_offer.specs.declared.settings.Settings.{Settings}
use Rattle.irl_array.specs.Waiting.{Waiting}
use Rattle.irl_schedule.specs.Feeding.{IsArrayOf}

-- what stands for an array that isn't there
abbrev pub no_array : Waiting
no_array = record { room = 0; items = [] }

abbrev pub array_at : List Waiting → ℕ → Waiting
array_at arrays b = slice_index_or arrays b no_array

-- a bucket's offers that wait
abbrev pub waiting_at : List Waiting → ℕ → List Tuple
waiting_at arrays b = (array_at arrays b).items

-- an offer waits
abbrev pub SomeWaiting : ℕ → List Waiting → Type 0
SomeWaiting buckets arrays = (b : ℕ) × (b < buckets) × (1 ≤ length (waiting_at arrays b))

-- one in front of each bucket
pub record AreArrays (settings : Settings) (arrays : List Waiting) : Type 0 where
  pub count : length arrays ≡ settings.buckets
  pub each : (b : ℕ) → b < settings.buckets → IsArrayOf settings b (array_at arrays b)
