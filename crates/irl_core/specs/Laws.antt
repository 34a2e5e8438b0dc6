-- What every core keeps, whatever its steps were, and what one step leaves of what was there.
use Rattle.std.specs.Prelude.{◌≡◌, ◌≢◌, ℕ, ◌+◌, ◌≤◌, Bool, true, false, List, [], ◌∷◌, ◌++◌, length, slice_get, slice_index, Some}
use Rattle.irl_offer.specs.Settings.{AreValid}
use Rattle.irl_offer.specs.Tuple.{Tuple}
use Rattle.irl_offer.specs.declared.receipt.Receipt.{Receipt}
use Rattle.irl_model.specs.Book.{IsBook, IsBelow, AreOfBuckets, lengths_of}
use Rattle.irl_events.specs.Events.{has_number}
use Rattle.irl_fate.specs.Standing.{count, one_if, stands, IsWaiting}
use Rattle.irl_core.specs.declared.step.Step.{Step}
use Rattle.irl_core.specs.declared.step.Step.TheVariants.{Offer, Flush, Merge, Stop, FlushStop, MergeStop, Pass, Settle, SettleStop}
use Rattle.irl_core.specs.declared.step.Reply.TheVariants.{Stopped}
use Rattle.irl_core.specs.Steps.{CoreState, array_of, list_of, judged_in, course, url_numbers, unread, step}

-- Each number of a URL stands once: among those that no pass has read, or in the front, a queue, the last list or what
-- is done. No other number stands anywhere.
abbrev pub StandOnce : CoreState → Type 0
StandOnce x = (n : ℕ) → count n (unread x (url_numbers x)) + stands (course x) n ≡ one_if (has_number (url_numbers x) n)

pub record IsCore (x : CoreState) : Type 0 where
  pub settings : AreValid x.settings
  pub urls : IsBook x.urls
  pub buckets : x.urls.buckets ≡ x.settings.buckets
  pub rule : x.urls.rule ≡ x.settings.rule
  pub arrays : length x.arrays ≡ x.settings.buckets
  -- what waits in an array is of its bucket, and no more than it has room for
  pub each : AreOfBuckets x.settings.buckets 0 x.arrays
  pub room : (b : ℕ) → length (array_of x b) ≤ x.settings.array
  pub acknowledged : IsBelow x.acknowledged (lengths_of x.urls)
  pub waiting : IsWaiting (course x).waiting
  pub read : (course x).read ≤ judged_in x
  -- the lists are as long as at the last settle, or longer
  pub fronts : IsBelow (course x).fronts (lengths_of x.urls)
  pub once : StandOnce x

-- ---- stops
abbrev pub is_stop : Step → Bool
is_stop (Offer b offer) = false
is_stop (Flush b) = false
is_stop Merge = false
is_stop Stop = true
is_stop (FlushStop b took) = true
is_stop (MergeStop took) = true
is_stop (Pass places) = false
is_stop (Settle outcomes) = false
is_stop (SettleStop outcomes took) = true

-- whether a step changes, where it is taken, what the store holds
abbrev pub takes_effect : Step → Bool
takes_effect (Offer b offer) = false
takes_effect (Flush b) = true
takes_effect Merge = true
takes_effect Stop = false
takes_effect (FlushStop b took) = took
takes_effect (MergeStop took) = took
takes_effect (Pass places) = true
takes_effect (Settle outcomes) = true
takes_effect (SettleStop outcomes took) = took

-- what a bucket was given and wasn't lost: its list, and then its array
abbrev pub given : CoreState → ℕ → List Tuple
given x b = list_of x b ++ array_of x b

-- none of these steps was a stop, but for stops that were refused
abbrev pub NoneStopped : CoreState → List Step → Type 0
NoneStopped x [] = Unit {0}
NoneStopped x (s ∷ steps) = ((step x s).1 ≢ Stopped) × NoneStopped (step x s).0 steps

-- ---- receipts
-- an offer stands in its bucket's list at the number of a receipt
abbrev pub StandsAt : CoreState → Receipt → Tuple → Type 0
StandsAt x receipt offer =
    (place : ℕ) × ((slice_index x.urls.firsts receipt.bucket + place ≡ receipt.number)
    × (slice_get (list_of x receipt.bucket) place ≡ Some offer))

-- an offer stands at a number among what its bucket was given
abbrev pub GivenAt : CoreState → ℕ → ℕ → Tuple → Type 0
GivenAt x b number offer = (place : ℕ) × ((slice_index x.urls.firsts b + place ≡ number)
    × (slice_get (given x b) place ≡ Some offer))
